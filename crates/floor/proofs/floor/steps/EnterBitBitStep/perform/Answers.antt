use Rattle.fleet.specs.Axes.{axis_of}
use Rattle.times.specs.Of.{moment_of}
use Rattle.floor.proofs.Granting.{bit_entered}
use Rattle.floor.proofs.floor.steps.EnterBitBitStep.perform.Goals as goal

pub returns : goal.returns
returns g c = record {
  wrote = bit_entered _ _ _ _ (axis_of c.args.axis) c.args.c.number c.args.d.number (moment_of c.args.self.now.moment) _ _ _ _ _ _ _ _ _ _ _
      c.args.c.inside c.args.d.inside c.of-slot.ensures c.lower.ensures c.higher.ensures c.span.ensures c.span-2.ensures c.overlaps-bit.ensures c.set_bit.ensures c.grant_bit.ensures.wrote;
  same = c.grant_bit.ensures.same;
}
