-- Refusals that the rows alone tell, one after another.
use Rattle.std.proofs.Common.{◌≡◌, ℕ, Bool, true, false, cond, is_some, Some, None, Ok, Err, Option, Result, ok_or, IsErrAnd, sym, refl, ap, ◌∙◌}
use Rattle.times.specs.declared.refusal.Refusal.{Refusal}
use Rattle.times.specs.Refusals.{number_of}
use Rattle.hall.specs.Told.{refused_by, row}
use Rattle.hall.proofs.Rows.{none_some, later}

-- a row that was passed does not fit
pub passed : (n : ℕ) (b : Bool) → None ≡ row n b → b ≡ false
passed n true e = absurd (none_some n e)
passed n false e = refl

pub skip : (n : ℕ) (b : Bool) (p o : Option ℕ) → b ≡ false → p ≡ o → p ≡ cond b (Some n) o
skip n b p o e f = f ∙ sym (later n b o o e refl)

-- the first row that fits, and the rows that were passed before it
pub found : (n k : ℕ) (b : Bool) (o : Option ℕ) → Some k ≡ row n b → Some k ≡ cond b (Some n) o
found n k true o e = e
found n k false o e = absurd (none_some k (sym e))

pub after : (n : ℕ) (b : Bool) (p o : Option ℕ) → None ≡ row n b → p ≡ o → p ≡ cond b (Some n) o
after n b p o e f = skip n b p o (passed n b e) f

-- the number of an error that is passed on
pub told_err : {A : Type 0} → (r : Result A Refusal) (e : Refusal) → IsErrAnd r (λ y. y ≡ e) → refused_by r ≡ Some (number_of e)
told_err (Ok x) e h = absurd h
told_err (Err y) e h = ap (λ (x : Refusal). Some (number_of x)) h

-- an answer that is none is an error, and one that is not is passed on
pub nothing : {A : Type 0} → (o : Option A) (e d : Refusal) → Err e ≡ ok_or o d → (is_some o ≡ false) × (e ≡ d)
nothing None e d p = (refl, cc)
nothing (Some f) e d p = cc

pub something : {A : Type 0} → (o : Option A) (f : A) (d : Refusal) → Ok f ≡ ok_or o d → Some f ≡ o
something None f d p = cc
something (Some g) f d p = cc
