use Rattle.std.proofs.Common.{◌∙◌}
use Rattle.queues.specs.Meanings.{stored}
use Rattle.floor.proofs.Firing.{read_wrote}
use Rattle.floor.proofs.floor.Floor.read_then.Goals as goal

pub returns : goal.returns
returns g c = record { wrote = read_wrote (g.S.AxisStep.moves c.args.step.now c.args.c.number) c.args.c.number (stored c.args.fails) c.args.slip.now.used _ _ c.requires _ c.leg_slot_of.ensures _ _ _ c.on_axes.ensures.wrote _ _ _ c.grant.ensures.wrote; same = c.grant.ensures.same ∙ c.on_axes.ensures.same }
