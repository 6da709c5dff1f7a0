use Rattle.std.proofs.Common.{◌≡◌, ◌*◌, ◌≤◌, length}
use Rattle.rules.specs.Basics.{below}
use Rattle.floor.specs.Of.{hall_of}
use Rattle.runs.specs.Listing.{rows_of}
use Rattle.runs.proofs.listing.count_pairs.Given as goal

abbrev pub invariant-loop-c : goal.invariant-loop-c
invariant-loop-c g l = (l.n ≡ length (rows_of (hall_of g.B.FlightBook.meaning g.Q.EventQueue.holds l.floor) (below l.c))) × (l.n ≤ 64 * l.c)
