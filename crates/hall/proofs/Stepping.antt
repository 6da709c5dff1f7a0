-- Steps.
use Rattle.std.proofs.Common.{◌≡◌, ℕ, ◌<◌, List, length, Some, None, Option, sym, ap, ◌∙◌, zero-add, arith}
use Rattle.std.proofs.lemmas.Bool.{ltb-false}
use Rattle.rules.specs.Fractions.{Fraction}
use Rattle.rules.specs.Stamps.{Stamp}
use Rattle.rules.specs.Pages.{News}
use Rattle.model.specs.Halls.{Hall, State, left, next_due}
use Rattle.model.specs.Moves.{fire}
use Rattle.model.specs.Calls.{stepping, stepped, accepted, Done}
use Rattle.model.specs.Refusals.{rows, refusal}
use Rattle.model.specs.Runs.{step}
use Rattle.model.specs.Performing.{stepping_to}
use Rattle.accounts.proofs.Counts.{fire_within}
use Rattle.accounts.proofs.Sound.{unfit}
use Rattle.floor_laws.specs.Writing as floor
use Rattle.floor_laws.proofs.Writes.{written_start}
use Rattle.hall.specs.Told.{Wrote, onto}
use Rattle.hall.proofs.Rows.{at_none}

-- THE ROWS OF A STEP

pub step_fits : (t g : Fraction) (z : State) (s : List ℕ) (f : ℕ) (k : Stamp) → f < 12352 → refusal (stepping t g (length s)) z ≡ None → floor.Fits (fire f k) 0 z.hall s
step_fits t g z s f k h e =
    let u = unfit (rows (stepping t g (length s)) z) e in
    let room = ltb-false (length s) 380 u.1.1.0 in
    let numbers = ltb-false (left z.hall) 190 u.1.1.1.0 in
    let w = (fire_within f k z.hall h).0 in
    record { room = omega (arith, room, w.lines); numbers = omega (arith, numbers, w.most) }

-- a step that fired f at k
pub step_wrote : (t g : Fraction) (z : State) (f : ℕ) (k : Stamp) (m : Hall) (s s' : List ℕ) (n number : ℕ) (time : Fraction) (told : Option News) →
    refusal (stepping t g (length s)) z ≡ None → next_due g z.hall ≡ Some (f, k) → floor.Wrote (fire f k) 0 z.hall m s s' n →
    number ≡ (step f k z.hall).number → time ≡ (step f k z.hall).time → told ≡ (step f k z.hall).news →
    Wrote (stepping t g (length s)) z (record { hall = m; clock = z.clock }) (accepted (stepped number time told)) s s' n
step_wrote t g z f k m s s' n number time told e d w p q r =
    let a = at_none (stepping t g (length s)) z e ∙ ap (λ (o : Option (ℕ × Stamp)). stepping_to o z) d in
    record {
      performed = record {
        state = ap (λ (h : Hall). record { hall = h; clock = z.clock }) w.hall ∙ sym (ap (λ (x : Done). x.state) a);
        result = (λ i. accepted (stepped (p i) (q i) (r i))) ∙ sym (ap (λ (x : Done). x.answer.result) a);
      };
      slip = w.slip ∙ written_start (fire f k z.hall).lines s ∙ sym (ap (λ (x : Done). onto x.answer.lines s) a);
      count = w.count ∙ zero-add _ ∙ sym (ap (λ (x : Done). length x.answer.lines) a);
    }
