use Rattle.std.proofs.Common.{◌≡◌}
use Rattle.rehearsal.specs.Cues.{loaded}
use Rattle.rehearsal.proofs.cues.load.Given as goal

-- the craft so far are in the queue
abbrev pub invariant-loop-number : goal.invariant-loop-number
invariant-loop-number g l = g.Q.EventQueue.holds l.queue ≡ loaded (g.B.FlightBook.meaning l.book) l.number (g.Q.EventQueue.holds l.initial.queue)
