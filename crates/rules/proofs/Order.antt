-- The order of fractions.
use Rattle.std.proofs.Common.{◌≡◌, ℕ, ◌+◌, ◌-◌, ◌*◌, ◌<◌, ◌≤◌, ap, mul-le-mul_right, lt_of_mul-lt-mul_right, le_of_mul-le-mul_right, arith}
use native.Mathlib.Nat.{eq_of_mul-eq-mul_right}
use Rattle.rules.specs.Fractions.{Fraction, Proper, Before, NotAfter, SameTime}

-- (p − q) (y − x) is never negative, and positive where both factors are
pub rearrange : (p q x y : ℕ) → q ≤ p → x ≤ y → p * x + q * y ≤ p * y + q * x
rearrange p q x y h k =
    let e : p ≡ q + (p - q) = omega arith in
    let f : y ≡ x + (y - x) = omega arith in
    rw (e, f) (go (p - q) (y - x))
  where
    go : (e f : ℕ) → (q + e) * x + q * (x + f) ≤ (q + e) * (x + f) + q * x
    go e f = omega arith

pub rearrange_lt : (p q x y : ℕ) → q < p → x < y → p * x + q * y < p * y + q * x
rearrange_lt p q x y h k =
    omega (arith, rearrange p (q + 1) x y (omega arith) (omega arith), rearrange (q + 1) q (x + 1) y (omega arith) (omega arith))

pub before_trans : (r s t : Fraction) → Proper r → Before r s → Before s t → Before r t
before_trans r s t p h k =
    lt_of_mul-lt-mul_right s.den (omega (arith, mul-le-mul_right t.den h, mul-le-mul_right r.den k))

pub not_after_before : (r s t : Fraction) → Proper r → Proper s → NotAfter r s → Before s t → Before r t
not_after_before r s t p q h k =
    lt_of_mul-lt-mul_right s.den (omega (arith, mul-le-mul_right t.den h, mul-le-mul_right r.den k))

pub before_not_after : (r s t : Fraction) → Proper s → Proper t → Before r s → NotAfter s t → Before r t
before_not_after r s t q p h k =
    lt_of_mul-lt-mul_right s.den (omega (arith, mul-le-mul_right t.den h, mul-le-mul_right r.den k))

pub not_after_trans : (r s t : Fraction) → Proper s → NotAfter r s → NotAfter s t → NotAfter r t
not_after_trans r s t q h k =
    le_of_mul-le-mul_right {k = s.den} (omega (arith, mul-le-mul_right t.den h, mul-le-mul_right r.den k)) q

pub same_trans : (r s t : Fraction) → Proper s → SameTime r s → SameTime s t → SameTime r t
same_trans r s t ps e f =
    eq_of_mul-eq-mul_right s.den ps (r.num * t.den) (t.num * r.den)
    (omega (arith, ap (λ (x : ℕ). x * t.den) e, ap (λ (x : ℕ). x * r.den) f))
