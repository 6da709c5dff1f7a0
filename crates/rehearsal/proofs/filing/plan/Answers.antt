use Rattle.rehearsal.proofs.Legs.{legs_more}
use Rattle.rehearsal.proofs.filing.plan.Goals as goal

pub loop-text-init : goal.loop-text-init
loop-text-init c = cc

pub loop-text-preserved : goal.loop-text-preserved
loop-text-preserved c = legs_more _ _ _ _ _ _ _ c.loop-text-test.true c.loop-text.invariant c.leg.ensures c.push_leg.ensures
