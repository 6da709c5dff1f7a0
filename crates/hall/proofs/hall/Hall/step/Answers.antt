use Rattle.std.proofs.Common.{sym, rules}
use Rattle.times.specs.Of.{time_of, moment_of}
use Rattle.hall.specs.Of.{state_of}
use Rattle.hall.proofs.Slips.{on_slip, from_slip}
use Rattle.hall.proofs.Stepping.{step_fits, step_wrote}
use Rattle.hall.proofs.hall.Hall.step.Goals as goal

pub step-requires : goal.step-requires
step-requires g c =
    let z = state_of g.B.FlightBook.meaning g.Q.EventQueue.holds c.args.self.now in
    let e = c.in_ok-due.ensures in
    on_slip _ _ c.new-slip.result c.args.slip.now c.new-slip.ensures.lines c.new-slip.ensures.used
    (step_fits (time_of c.args.d.now.at) (time_of c.args.d.now.goal) z c.args.slip.now c.in_ok-due.due.slot.number (moment_of c.in_ok-due.due.moment) c.in_ok-due.due.slot.inside (sym e.refused))

pub returns : goal.returns
returns g c =
    let z = state_of g.B.FlightBook.meaning g.Q.EventQueue.holds c.args.self.now in
    let e = c.in_ok-due.ensures in
    step_wrote (time_of c.args.d.now.at) (time_of c.args.d.now.goal) z c.in_ok-due.due.slot.number (moment_of c.in_ok-due.due.moment) _ c.args.slip.now _ _ _ _ _
    (sym e.refused) e.due (from_slip _ _ _ c.new-slip.result c.step.new.slip c.args.slip.now _ _ c.new-slip.ensures.lines c.new-slip.ensures.used (search rules) c.step.ensures.end c.step.ensures.moved) c.step.ensures.number c.step.ensures.time c.step.ensures.news
