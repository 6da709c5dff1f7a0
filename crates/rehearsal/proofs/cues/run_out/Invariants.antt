use Rattle.std.proofs.Common.{◌≡◌, ◌-◌, ◌++◌, vec_items}
use Rattle.rehearsal.specs.Cues.{cues_in}
use Rattle.rehearsal.proofs.cues.run_out.Given as goal

-- the cues so far, and those that are left, are all
abbrev pub invariant-loop-n : goal.invariant-loop-n
invariant-loop-n g l = vec_items l.sheet ++ cues_in (3200000 - l.n) (g.B.FlightBook.meaning l.book) (g.Q.EventQueue.holds l.queue) ≡ vec_items l.initial.sheet ++ cues_in 3200000 (g.B.FlightBook.meaning l.book) (g.Q.EventQueue.holds l.initial.queue)
