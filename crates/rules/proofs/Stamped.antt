-- The order of moments.
use Rattle.std.proofs.Common.{◌≡◌, ℕ, ◌*◌, ◌<◌, ◌≤◌, Bool, true, false, ◌⊎◌, sym, refl, ap, inl, inr, ⊎_elim, arith}
use native.Mathlib.Decide.{dec_le, dec_lt}
use Rattle.rules.specs.Fractions.{Fraction, Proper, Before, SameTime}
use Rattle.rules.specs.Stamps.{Stamp, Earlier, NotEarlier, side}
use Rattle.rules.proofs.Order.{before_trans, not_after_before, before_not_after, same_trans}

pub asym : (m k : Stamp) → Earlier m k → Earlier k m → ⊥
asym m k (inl x) (inl y) = omega arith
asym m k (inl x) (inr y) = omega (arith, y.0)
asym m k (inr x) (inl y) = omega (arith, x.0)
asym m k (inr x) (inr y) = omega (arith, x.1, y.1)

pub false_true : false ≡ true → ⊥
false_true e = let z : ◌≡◌ {A = ℕ} 0 1 = ap side e in omega arith

late_last : (x y : Bool) → side x ≤ side y → x ≡ true → y ≡ true
late_last x true h e = refl
late_last true false h e = absurd (omega arith)
late_last false false h e = e

-- k is not earlier than j
pub not_earlier_out : (j k : Stamp) → NotEarlier k j → (Before j.time k.time) ⊎ (SameTime j.time k.time × (side j.after ≤ side k.after))
not_earlier_out j k h = go (dec_le (k.time.num * j.time.den) (j.time.num * k.time.den))
  where
    go : Dec (k.time.num * j.time.den ≤ j.time.num * k.time.den) → (Before j.time k.time) ⊎ (SameTime j.time k.time × (side j.after ≤ side k.after))
    go (no f) = inl (omega arith)
    go (yes g) =
        let nb : ¬ (Before k.time j.time) = λ b. h (inl b) in
        let same : SameTime j.time k.time = omega arith in
        let ns : ¬ (side k.after < side j.after) = λ s. h (inr (sym same, s)) in
        inr (same, omega arith)

pub earlier_before : (j k : Stamp) (t : Fraction) → Proper j.time → Proper k.time → Earlier j k → Before k.time t → Before j.time t
earlier_before j k t pj pk (inl x) h = before_trans j.time k.time t pj x h
earlier_before j k t pj pk (inr x) h = not_after_before j.time k.time t pj pk (omega (arith, x.0)) h

pub earlier_trans : (i j k : Stamp) → Proper i.time → Proper j.time → Proper k.time → Earlier i j → Earlier j k → Earlier i k
earlier_trans i j k pi pj pk (inl x) (inl y) = inl (before_trans i.time j.time k.time pi x y)
earlier_trans i j k pi pj pk (inl x) (inr y) = inl (before_not_after i.time j.time k.time pj pk x (omega (arith, y.0)))
earlier_trans i j k pi pj pk (inr x) (inl y) = inl (not_after_before i.time j.time k.time pi pj (omega (arith, x.0)) y)
earlier_trans i j k pi pj pk (inr x) (inr y) = inr (same_trans i.time j.time k.time pj x.0 y.0, omega (arith, x.1, y.1))

unfoldable pub earlier_dec : (j k : Stamp) → Dec (Earlier j k)
earlier_dec j k = go (dec_lt (j.time.num * k.time.den) (k.time.num * j.time.den)) (dec_lt (k.time.num * j.time.den) (j.time.num * k.time.den)) (dec_lt (side j.after) (side k.after))
  where
    go : Dec (Before j.time k.time) → Dec (Before k.time j.time) → Dec (side j.after < side k.after) → Dec (Earlier j k)
    go (yes x) y z = yes (inl x)
    go (no x) (yes y) z = no λ p. ⊎_elim x (λ q. omega (arith, q.0)) p
    go (no x) (no y) (yes z) = yes (inr (omega arith, z))
    go (no x) (no y) (no z) = no λ p. ⊎_elim x (λ q. z q.1) p

-- not earlier than a moment that is not earlier than i
pub not_earlier_trans : (i j k : Stamp) → Proper i.time → Proper j.time → Proper k.time → NotEarlier j i → NotEarlier k j → NotEarlier k i
not_earlier_trans i j k pi pj pk h g e = go (earlier_dec i j)
  where
    go : Dec (Earlier i j) → ⊥
    go (yes x) = g (earlier_trans k i j pk pi pj e x)
    go (no x) = level (not_earlier_out i j h) (not_earlier_out j i x) (not_earlier_out j k g) e
      where
        level : (Before i.time j.time) ⊎ (SameTime i.time j.time × (side i.after ≤ side j.after)) →
            (Before j.time i.time) ⊎ (SameTime j.time i.time × (side j.after ≤ side i.after)) →
            (Before j.time k.time) ⊎ (SameTime j.time k.time × (side j.after ≤ side k.after)) → Earlier k i → ⊥
        level (inl a) b c e = x (inl a)
        level (inr a) (inl b) c e = omega (arith, a.0)
        level (inr a) (inr b) (inl c) (inl e) = omega (arith, before_not_after k.time i.time j.time pi pj e (omega (arith, a.0)))
        level (inr a) (inr b) (inl c) (inr e) = omega (arith, same_trans k.time i.time j.time pi e.0 a.0)
        level (inr a) (inr b) (inr c) (inl e) = omega (arith, c.0, before_not_after k.time i.time j.time pi pj e (omega (arith, a.0)))
        level (inr a) (inr b) (inr c) (inr e) = omega (arith, c.1, a.1, b.1, e.1)
