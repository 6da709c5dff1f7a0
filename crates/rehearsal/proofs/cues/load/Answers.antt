use Rattle.rehearsal.proofs.Cueing.{loaded_none, loaded_more}
use Rattle.rehearsal.proofs.cues.load.Goals as goal

pub loop-number-init : goal.loop-number-init
loop-number-init g c = loaded_none _ _

pub loop-number-preserved : goal.loop-number-preserved
loop-number-preserved g c = loaded_more _ _ _ _ _ _ _ _ c.loop-number.invariant c.zero.ensures c.slot_of.ensures c.next_cue.ensures c.keep.ensures.meaning
