use Rattle.std.proofs.Common.{◌≡◌, length}
use Rattle.rules.specs.Basics.{below}
use Rattle.floor.specs.Of.{hall_of}
use Rattle.runs.specs.Listing.{row_with}
use Rattle.runs.proofs.listing.count_row.Given as goal

abbrev pub invariant-loop-d : goal.invariant-loop-d
invariant-loop-d g l = l.n ≡ length (row_with (hall_of g.B.FlightBook.meaning g.Q.EventQueue.holds l.floor) l.c.number (below l.d))
