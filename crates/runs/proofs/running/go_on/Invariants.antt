use Rattle.std.proofs.Common.{◌≡◌}
use Rattle.times.specs.Of.{time_of}
use Rattle.model.specs.Halls.{left}
use Rattle.floor.specs.Of.{hall_of}
use Rattle.runs.proofs.Going.{Going}
use Rattle.runs.proofs.running.go_on.Given as goal

abbrev pub invariant-steps : goal.invariant-steps
invariant-steps g l =
    let m = hall_of g.B.FlightBook.meaning g.Q.EventQueue.holds in
    record {
      going : Going (time_of l.goal) (m l.initial.floor) (m l.floor) l.initial.slip.lines.now l.slip.lines.now l.initial.page.page.now l.page.page.now l.steps l.slip.used l.page.used;
      slip : l.slip.lines.ghost_name ≡ l.initial.slip.lines.ghost_name;
      page : l.page.page.ghost_name ≡ l.initial.page.page.ghost_name;
    }

abbrev pub decreases-steps : goal.decreases-steps
decreases-steps g l = left (hall_of g.B.FlightBook.meaning g.Q.EventQueue.holds l.floor)
