use Rattle.floor.specs.Of.{hall_of}
use Rattle.floor.specs.Saved.{Saved}
use Rattle.floor.proofs.floor.Floor.followers.Given as goal

abbrev pub invariant-loop-d : goal.invariant-loop-d
invariant-loop-d g l = Saved l.c.number (hall_of g.B.FlightBook.meaning g.Q.EventQueue.holds l.self) l.d l.saved
