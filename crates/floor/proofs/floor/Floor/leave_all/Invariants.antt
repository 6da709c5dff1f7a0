use Rattle.model.specs.Moves.{leave}
use Rattle.floor_laws.proofs.Loops.{prefix}
use Rattle.floor.specs.Of.{hall_of}
use Rattle.floor.specs.Slips.{Moved}
use Rattle.floor.specs.Saved.{is_saved}
use Rattle.floor.proofs.floor.Floor.leave_all.Given as goal

abbrev pub invariant-loop-d : goal.invariant-loop-d
invariant-loop-d g l =
    let m = hall_of g.B.FlightBook.meaning g.Q.EventQueue.holds in
    Moved (prefix leave (is_saved l.saved) l.d) (m l.initial.self) (m l.self) l.initial.slip l.slip
