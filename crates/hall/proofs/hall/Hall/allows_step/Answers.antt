use Rattle.std.proofs.Common.{not, is_some, Some, sym, ap, ◌∙◌}
use Rattle.times.specs.declared.refusal.Refusal.{Refusal}
use Rattle.times.specs.declared.refusal.Refusal.TheVariants.{NothingDue}
use Rattle.times.specs.Refusals.{number_of}
use Rattle.hall.proofs.Rows.{here}
use Rattle.hall.proofs.Refused.{skip, found, after, told_err, nothing, something}
use Rattle.hall.proofs.Clocks.{told_some}
use Rattle.hall.proofs.hall.Hall.allows_step.Goals as goal

pub returns-in_err-knows_due-clause-refused : goal.returns-in_err-knows_due-clause-refused
returns-in_err-knows_due-clause-refused g c =
    told_err c.from_residual.result c.in_err-knows_due.field-0.0 c.from_residual.ensures.1 ∙ found 1 _ _ _ c.in_err-knows_due.ensures

pub returns-in_err-due-clause-refused : goal.returns-in_err-due-clause-refused
returns-in_err-due-clause-refused g c =
    let n = nothing c.due.result c.in_err-due.field-0.0 NothingDue c.in_err-due.ensures.value in
    let e = ap is_some (sym c.due.ensures) ∙ sym (told_some c.due.result) ∙ n.0 in
    told_err c.from_residual-in_err-due.result c.in_err-due.field-0.0 c.from_residual-in_err-due.ensures.1
    ∙ ap (λ (x : Refusal). Some (number_of x)) n.1
    ∙ after 1 _ _ _ c.in_ok-knows_due.ensures (sym (here 13 _ _ (ap not e)))

pub returns-in_err-room_for-clause-refused : goal.returns-in_err-room_for-clause-refused
returns-in_err-room_for-clause-refused g c =
    let e = ap is_some (sym c.due.ensures) ∙ sym (told_some c.due.result) ∙ ap is_some (sym (something c.due.result c.in_ok-due.due NothingDue c.in_ok-due.ensures.value)) in
    told_err c.from_residual-in_err-room_for.result c.in_err-room_for.field-0.0 c.from_residual-in_err-room_for.ensures.1
    ∙ after 1 _ _ _ c.in_ok-knows_due.ensures (skip 13 _ _ _ (ap not e) (found 15 _ _ _ c.in_err-room_for.ensures))

pub returns-in_err-numbers_for-clause-refused : goal.returns-in_err-numbers_for-clause-refused
returns-in_err-numbers_for-clause-refused g c =
    let e = ap is_some (sym c.due.ensures) ∙ sym (told_some c.due.result) ∙ ap is_some (sym (something c.due.result c.in_ok-due.due NothingDue c.in_ok-due.ensures.value)) in
    told_err c.from_residual-in_err-numbers_for.result c.in_err-numbers_for.field-0.0 c.from_residual-in_err-numbers_for.ensures.1
    ∙ after 1 _ _ _ c.in_ok-knows_due.ensures (skip 13 _ _ _ (ap not e) (after 15 _ _ _ c.in_ok-room_for.ensures (found 16 _ _ _ c.in_err-numbers_for.ensures)))
