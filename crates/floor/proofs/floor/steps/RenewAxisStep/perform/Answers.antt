use Rattle.std.proofs.Common.{◌∙◌}
use Rattle.fleet.specs.Axes.{axis_of}
use Rattle.times.specs.Of.{moment_of}
use Rattle.floor_laws.specs.Writing.{withdraw, regrant}
use Rattle.floor_laws.proofs.Loops.{both_first, both_second, both_wrote}
use Rattle.floor_laws.proofs.Moving.{withdraw_leaves, grant_bit_grows}
use Rattle.floor.proofs.floor.steps.RenewAxisStep.perform.Goals as goal

pub perform-requires : goal.perform-requires
perform-requires g c = let a = axis_of c.args.axis in both_first (withdraw a c.args.c.number) (regrant a c.args.c.number (moment_of c.args.self.now.moment)) (withdraw_leaves a c.args.c.number) (grant_bit_grows a c.args.c.number (moment_of c.args.self.now.moment)) c.args.c.number c.args.slip.now.used _ _ c.requires

pub perform-requires-2 : goal.perform-requires-2
perform-requires-2 g c = let a = axis_of c.args.axis in both_second (withdraw a c.args.c.number) (regrant a c.args.c.number (moment_of c.args.self.now.moment)) (withdraw_leaves a c.args.c.number) (grant_bit_grows a c.args.c.number (moment_of c.args.self.now.moment)) c.args.c.number c.args.slip.now.used _ _ c.requires _ _ _ c.perform.ensures.wrote

pub returns : goal.returns
returns g c = let a = axis_of c.args.axis in record { wrote = both_wrote (withdraw a c.args.c.number) (regrant a c.args.c.number (moment_of c.args.self.now.moment)) (withdraw_leaves a c.args.c.number) (grant_bit_grows a c.args.c.number (moment_of c.args.self.now.moment)) c.args.c.number c.args.slip.now.used _ _ c.requires _ _ _ c.perform.ensures.wrote _ _ _ c.perform-2.ensures.wrote; same = c.perform-2.ensures.same ∙ c.perform.ensures.same }
