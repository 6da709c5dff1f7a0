use Rattle.std.proofs.Common.{sym, ap, ◌∙◌, subst}
use Rattle.times.specs.Of.{time_of}
use Rattle.floor.specs.Of.{hall_of, due_told}
use Rattle.runs.specs.declared.ended.Ended.{Ended}
use Rattle.runs.specs.declared.ended.Ended.TheVariants.{NothingDue}
use Rattle.runs.specs.Running.{ended_number, Stop}
use Rattle.runs.proofs.Nexts.{nothing_due, nothing, stopped}
use Rattle.runs.proofs.running.next.Goals as goal

pub returns-in_err-due : goal.returns-in_err-due
returns-in_err-due g c =
    let m = hall_of g.B.FlightBook.meaning g.Q.EventQueue.holds c.args.floor.now in
    let n = nothing c.due.result c.in_err-due.field-0.0 NothingDue c.in_err-due.ensures.value in
    stopped _ _ c.from_residual.result c.in_err-due.field-0.0 c.from_residual.ensures.1
    (subst (λ (e : Ended). Stop (time_of c.args.goal) c.args.lines c.args.bytes m (ended_number e)) n.1
    (nothing_due (time_of c.args.goal) c.args.lines c.args.bytes m (sym c.due.ensures ∙ ap due_told n.0)))
