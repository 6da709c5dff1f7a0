use Rattle.times.specs.Of.{moment_of}
use Rattle.floor.proofs.Saving.{kept_fits, kept_wrote}
use Rattle.floor.proofs.floor.Floor.enter_if.Goals as goal

pub enter-requires : goal.enter-requires
enter-requires g c = kept_fits c.args.d.number c.args.slip.now.used (moment_of c.args.k) _ _ c.args.kept c.in-Some.craft _ c.in-Some.is c.sizes.ensures c.requires

pub returns-in-Some : goal.returns-in-Some
returns-in-Some g c = record { wrote = kept_wrote c.args.d.number c.args.slip.now.used (moment_of c.args.k) _ _ c.args.kept c.in-Some.craft _ c.in-Some.is c.sizes.ensures _ _ _ c.enter.ensures.wrote; same = c.enter.ensures.same }
