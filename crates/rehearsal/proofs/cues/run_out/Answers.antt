use Rattle.std.proofs.Common.{arith}
use Rattle.rehearsal.proofs.Cueing.{told_more, told_none, told_out}
use Rattle.rehearsal.proofs.cues.run_out.Goals as goal

pub returns-in_default : goal.returns-in_default
returns-in_default g c = told_none _ _ _ _ _ c.loop-n.invariant c.in_default.ensures.told

pub loop-n-preserved : goal.loop-n-preserved
loop-n-preserved g c =
    told_more 3200000 c.loop-n.n _ _ _ _ _ _ c.in-Some.cue c.loop-n-test.true c.loop-n.invariant c.in-Some.ensures.told c.take_cue.ensures.left c.in_ok-push.ensures.items

pub returns : goal.returns
returns g c = told_out _ _ _ _ _ c.loop-n.invariant (omega arith)
