-- What a run does next.
use Rattle.std.proofs.Common.{◌≡◌, ℕ, ◌<◌, Bool, true, false, cond, ◌||◌, ltb, Some, None, Ok, Err, Option, Result, IsErrAnd, MatchResult, ok_or, sym, refl, ap, ◌∙◌, subst}
use Rattle.std.proofs.lemmas.Bool.{ltb-false, or_parts}
use Rattle.rules.specs.Fractions.{Fraction}
use Rattle.rules.specs.Stamps.{Stamp}
use Rattle.model.specs.Halls.{Hall, left, next_due}
use Rattle.model.specs.Runs.{ending}
use Rattle.runs.specs.Running.{Next, Stop}

-- an answer that is none becomes the error
pub nothing : {A E : Type 0} → (o : Option A) (e d : E) → Err e ≡ ok_or o d → (o ≡ None) × (d ≡ e)
nothing None e d p = (refl, cc)
nothing (Some x) e d p = cc

-- an error that is passed on
pub stopped : {A E : Type 0} → (P : A → Type 0) (Q : E → Type 0) (r : Result A E) (e : E) → IsErrAnd r (λ y. y ≡ e) → Q e → MatchResult r P Q
stopped P Q (Ok x) e p q = absurd p
stopped P Q (Err y) e p q = subst Q (sym p) q

module _ (goal : Fraction) (l b : ℕ) (m : Hall) where
  pub nothing_due : next_due goal m ≡ None → Stop goal l b m 0
  nothing_due e = record { ends = ap (λ (o : Option (ℕ × Stamp)). ending o l b m) e }

  module _ (f : ℕ × Stamp) (e : next_due goal m ≡ Some f) where
    is_due : ending (next_due goal m) l b m ≡ cond (ltb l 380 || ltb b 11) (Some 15) (cond (ltb (left m) 190) (Some 16) None)
    is_due = ap (λ (o : Option (ℕ × Stamp)). ending o l b m) e

    pub no_room : (ltb l 380 || ltb b 11) ≡ true → Stop goal l b m 15
    no_room x = record { ends = is_due ∙ ap (λ (t : Bool). cond t (Some 15) (cond (ltb (left m) 190) (Some 16) None)) x }

    module _ (x : (ltb l 380 || ltb b 11) ≡ false) where
      has_room : ending (next_due goal m) l b m ≡ cond (ltb (left m) 190) (Some 16) None
      has_room = is_due ∙ ap (λ (t : Bool). cond t (Some 15) (cond (ltb (left m) 190) (Some 16) None)) x

      pub no_numbers : ltb (left m) 190 ≡ true → Stop goal l b m 16
      no_numbers y = record { ends = has_room ∙ ap (λ (t : Bool). cond t (Some 16) None) y }

      pub goes_next : ltb (left m) 190 ≡ false → f.0 < 12352 → Next goal l b m f
      goes_next y h = record {
        due = e;
        goes = has_room ∙ ap (λ (t : Bool). cond t (Some 16) None) y;
        slot = h;
        room = ltb-false l 380 (or_parts (ltb l 380) (ltb b 11) x).0;
        space = ltb-false b 11 (or_parts (ltb l 380) (ltb b 11) x).1;
        numbers = ltb-false (left m) 190 y;
      }
