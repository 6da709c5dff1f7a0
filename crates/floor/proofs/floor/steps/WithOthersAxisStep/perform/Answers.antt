use Rattle.std.proofs.Common.{arith, ◌∙◌}
use Rattle.fleet.specs.Axes.{axis_of}
use Rattle.floor_laws.proofs.Loops.{at_end, at_room, at_step}
use Rattle.floor.proofs.floor.steps.WithOthersAxisStep.perform.Goals as goal

pub with_other-requires : goal.with_other-requires
with_other-requires g c = at_room (g.S.BitStep.moves c.args.self.now.step (axis_of c.args.axis) c.args.c.number) (g.met.S.BitStep.grows c.args.self.now.step (axis_of c.args.axis) c.args.c.number) (g.met.S.BitStep.leaves c.args.self.now.step (axis_of c.args.axis) c.args.c.number) c.args.c.number c.args.slip.now.used _ _ c.requires c.loop-d.d c.loop-d-test.true _ _ _ c.loop-d.invariant.wrote

pub loop-d-preserved : goal.loop-d-preserved
loop-d-preserved g c = record { wrote = at_step (g.S.BitStep.moves c.args.self.now.step (axis_of c.args.axis) c.args.c.number) (g.met.S.BitStep.grows c.args.self.now.step (axis_of c.args.axis) c.args.c.number) (g.met.S.BitStep.leaves c.args.self.now.step (axis_of c.args.axis) c.args.c.number) c.args.c.number c.args.slip.now.used _ _ c.requires c.loop-d.d c.loop-d-test.true _ _ _ c.loop-d.invariant.wrote _ _ _ c.with_other.ensures.wrote; same = c.with_other.ensures.same ∙ c.loop-d.invariant.same }

pub returns : goal.returns
returns g c = record { wrote = at_end (g.S.BitStep.moves c.args.self.now.step (axis_of c.args.axis) c.args.c.number) (g.met.S.BitStep.grows c.args.self.now.step (axis_of c.args.axis) c.args.c.number) (g.met.S.BitStep.leaves c.args.self.now.step (axis_of c.args.axis) c.args.c.number) c.args.c.number c.args.slip.now.used _ _ c.loop-d.d _ _ _ (omega arith) (omega arith) c.loop-d.invariant.wrote; same = c.loop-d.invariant.same }
