use Rattle.std.proofs.Common.{◌≡◌, length}
use Rattle.rules.specs.Basics.{below}
use Rattle.floor_laws.specs.Writing.{written}
use Rattle.floor.specs.Of.{hall_of}
use Rattle.runs.specs.Listing.{rows_of}
use Rattle.runs.proofs.listing.list_pairs.Given as goal

abbrev pub invariant-loop-c : goal.invariant-loop-c
invariant-loop-c g l =
    let m = hall_of g.B.FlightBook.meaning g.Q.EventQueue.holds l.floor in
    (l.n ≡ length (rows_of m (below l.c))) × (l.list ≡ written 0 (rows_of m (below l.c)) l.initial.list)
