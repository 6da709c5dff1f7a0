-- Rows of a table of refusals; and from what a table comes to, what the call performs.
use Rattle.std.proofs.Common.{◌≡◌, ℕ, Bool, true, false, cond, List, [], ◌∷◌, ◌++◌, length, Some, None, Option, sym, refl, ap, ◌∙◌, subst, zero-add}
use Rattle.rules.specs.Basics.{first_fit}
use Rattle.rules.specs.Fractions.{Fraction}
use Rattle.rules.specs.Stamps.{at}
use Rattle.model.specs.Halls.{Hall, State}
use Rattle.model.specs.Calls.{Change, Call, changing, done, Result, refused, accepted, Done, only}
use Rattle.model.specs.Refusals.{refusal}
use Rattle.model.specs.Performing.{make, carried_out, unless, perform}
use Rattle.floor_laws.specs.Writing as floor
use Rattle.floor_laws.proofs.Writes.{written_start}
use Rattle.hall.specs.Told.{Performed, Wrote, onto}

-- nothing is not something
abbrev IsNone : Option ℕ → Type 0
IsNone None = Unit {0}
IsNone (Some n) = ⊥

pub none_some : (n : ℕ) → None ≡ Some n → ⊥
none_some n e = subst IsNone e tt

-- the first row fits; or it does not, and it is as the rest says
pub here : (n : ℕ) (b : Bool) (o : Option ℕ) → b ≡ true → cond b (Some n) o ≡ Some n
here n b o e = ap (λ (x : Bool). cond x (Some n) o) e

pub later : (n : ℕ) (b : Bool) (p o : Option ℕ) → b ≡ false → p ≡ o → cond b (Some n) p ≡ o
later n b p o e f = ap (λ (x : Bool). cond x (Some n) p) e ∙ f

-- rows before others: the first of them that fits, or what the others say
pub before : (xs ys : List (ℕ × Bool)) (n : ℕ) → first_fit xs ≡ Some n → first_fit (xs ++ ys) ≡ Some n
before [] ys n e = absurd (none_some n e)
before (x ∷ xs) ys n e = by (before xs ys n) x.1 e where
  by : (first_fit xs ≡ Some n → first_fit (xs ++ ys) ≡ Some n) → (b : Bool) → cond b (Some x.0) (first_fit xs) ≡ Some n → cond b (Some x.0) (first_fit (xs ++ ys)) ≡ Some n
  by more true f = f
  by more false f = more f

pub past : (xs ys : List (ℕ × Bool)) → first_fit xs ≡ None → first_fit (xs ++ ys) ≡ first_fit ys
past [] ys e = refl
past (x ∷ xs) ys e = by (past xs ys) x.1 e where
  by : (first_fit xs ≡ None → first_fit (xs ++ ys) ≡ first_fit ys) → (b : Bool) → cond b (Some x.0) (first_fit xs) ≡ None → cond b (Some x.0) (first_fit (xs ++ ys)) ≡ first_fit ys
  by more true f = absurd (none_some x.0 (sym f))
  by more false f = more f

pub at_refusal : (call : Call) (z : State) (n : ℕ) → refusal call z ≡ Some n → perform call z ≡ record { state = z; answer = only (refused n) }
at_refusal call z n e = ap (λ (o : Option ℕ). unless o call z) e

pub at_none : (call : Call) (z : State) → refusal call z ≡ None → perform call z ≡ carried_out call z
at_none call z e = ap (λ (o : Option ℕ). unless o call z) e

-- a refusal alters nothing
pub refused_performed : (call : Call) (z : State) (n : ℕ) → refusal call z ≡ Some n → Performed call z z (refused n)
refused_performed call z n e = let p = at_refusal call z n e in record {
  state = sym (ap (λ (d : Done). d.state) p);
  result = sym (ap (λ (d : Done). d.answer.result) p);
}

-- a call that is carried out
pub done_performed : (call : Call) (z z' : State) (r : Result) → refusal call z ≡ None → z' ≡ (carried_out call z).state → r ≡ (carried_out call z).answer.result → Performed call z z' r
done_performed call z z' r e p q = let a = at_none call z e in record {
  state = p ∙ sym (ap (λ (d : Done). d.state) a);
  result = q ∙ sym (ap (λ (d : Done). d.answer.result) a);
}

-- a change whose move wrote its lines from the start
pub change_wrote : (t : Fraction) (x : Change) (z : State) (m : Hall) (s s' : List ℕ) (n : ℕ) → refusal (changing t x (length s)) z ≡ None →
    floor.Wrote (make x (at t)) 0 z.hall m s s' n → Wrote (changing t x (length s)) z (record { hall = m; clock = z.clock }) (accepted done) s s' n
change_wrote t x z m s s' n e w = let a = at_none (changing t x (length s)) z e in record {
  performed = done_performed (changing t x (length s)) z _ _ e (ap (λ (h : Hall). record { hall = h; clock = z.clock }) w.hall) refl;
  slip = w.slip ∙ written_start (make x (at t) z.hall).lines s ∙ sym (ap (λ (d : Done). onto d.answer.lines s) a);
  count = w.count ∙ zero-add _ ∙ sym (ap (λ (d : Done). length d.answer.lines) a);
}
