use Rattle.std.proofs.Common.{◌≡◌, ◌+◌, length}
use Rattle.rules.specs.Basics.{below}
use Rattle.floor_laws.specs.Writing.{written}
use Rattle.floor.specs.Of.{hall_of}
use Rattle.runs.specs.Listing.{row_with}
use Rattle.runs.proofs.listing.list_row.Given as goal

abbrev pub invariant-loop-d : goal.invariant-loop-d
invariant-loop-d g l =
    let m = hall_of g.B.FlightBook.meaning g.Q.EventQueue.holds l.floor in
    (l.end ≡ l.n + length (row_with m l.c.number (below l.d))) × (l.list ≡ written l.n (row_with m l.c.number (below l.d)) l.initial.list)
