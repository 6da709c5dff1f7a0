use Rattle.std.proofs.Common.{refl}
use Rattle.model.specs.Halls.{all_craft}
use Rattle.model.proofs.show_stands.Goals as goal

pub returns : goal.returns
unfolding all_craft
returns c = (refl, refl)
