use Rattle.std.proofs.Common.{◌∙◌}
use Rattle.floor_laws.proofs.Loops.{axes_y, axes_z, axes_all}
use Rattle.floor.proofs.floor.Floor.on_axes.Goals as goal

pub perform-requires-2 : goal.perform-requires-2
perform-requires-2 g c = axes_y (g.S.AxisStep.moves c.args.step.now c.args.c.number) (g.met.S.AxisStep.leaves c.args.step.now c.args.c.number) (g.met.S.AxisStep.grows c.args.step.now c.args.c.number) c.args.c.number c.args.slip.now.used _ _ c.requires _ _ _ c.perform.ensures.wrote

pub perform-requires-3 : goal.perform-requires-3
perform-requires-3 g c = axes_z (g.S.AxisStep.moves c.args.step.now c.args.c.number) (g.met.S.AxisStep.leaves c.args.step.now c.args.c.number) (g.met.S.AxisStep.grows c.args.step.now c.args.c.number) c.args.c.number c.args.slip.now.used _ _ c.requires _ _ _ c.perform.ensures.wrote _ _ _ c.perform-2.ensures.wrote

pub returns : goal.returns
returns g c = record { wrote = axes_all (g.S.AxisStep.moves c.args.step.now c.args.c.number) (g.met.S.AxisStep.leaves c.args.step.now c.args.c.number) (g.met.S.AxisStep.grows c.args.step.now c.args.c.number) c.args.c.number c.args.slip.now.used _ _ c.requires _ _ _ c.perform.ensures.wrote _ _ _ c.perform-2.ensures.wrote _ _ _ c.perform-3.ensures.wrote; same = c.perform-3.ensures.same ∙ c.perform-2.ensures.same ∙ c.perform.ensures.same }
