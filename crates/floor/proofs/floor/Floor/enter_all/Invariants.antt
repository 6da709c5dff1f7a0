use Rattle.times.specs.Of.{moment_of}
use Rattle.model.specs.Moves.{enter}
use Rattle.floor_laws.proofs.Loops.{prefix}
use Rattle.floor.specs.Of.{hall_of}
use Rattle.floor.specs.Slips.{Moved}
use Rattle.floor.specs.Saved.{is_saved, saved_box}
use Rattle.floor.proofs.floor.Floor.enter_all.Given as goal

abbrev pub invariant-loop-d : goal.invariant-loop-d
invariant-loop-d g l =
    let m = hall_of g.B.FlightBook.meaning g.Q.EventQueue.holds in
    Moved (prefix (λ d. enter d (saved_box l.saved d) (moment_of l.k)) (is_saved l.saved) l.d) (m l.initial.self) (m l.self) l.initial.slip l.slip
