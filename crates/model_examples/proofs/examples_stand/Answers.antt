use Rattle.std.proofs.Common.{refl}
use Rattle.model.specs.Halls.{all_craft}
use Rattle.model_examples.proofs.examples_stand.Goals as goal

pub returns : goal.returns
unfolding all_craft
returns c = record { three = refl; formation = refl; cut = refl; refusals = refl }
