use Rattle.fleet.specs.Axes.{axis_of}
use Rattle.floor_laws.specs.Writing.{other}
use Rattle.floor_laws.proofs.Loops.{prefix}
use Rattle.floor.specs.Of.{hall_of}
use Rattle.floor.specs.Slips.{Moved}
use Rattle.floor.proofs.floor.steps.WithOthersAxisStep.perform.Given as goal

abbrev pub invariant-loop-d : goal.invariant-loop-d
invariant-loop-d g l =
    let m = hall_of g.B.FlightBook.meaning g.Q.EventQueue.holds in
    Moved (prefix (g.S.BitStep.moves l.self.step (axis_of l.axis) l.c.number) (other l.c.number (m l.initial.floor)) l.d) (m l.initial.floor) (m l.floor) l.initial.slip l.slip
