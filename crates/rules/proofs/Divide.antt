-- Divisors, and least terms by the greatest common divisor.
use Rattle.std.proofs.Common.{◌≡◌, ℕ, zero, suc, ◌+◌, ◌-◌, ◌*◌, ◌/◌, ◌%◌, ◌<◌, sym, refl, ap, ◌∙◌, subst, mul_assoc, arith}
use native.Mathlib.Nat.{div-add-mod, eq_of_mul-eq-mul_right, div-eq_of_eq-mul_left, mul-sub}
use Rattle.rules.specs.Fractions.{Divides, IsGcd, Least}

pub divides_self : (k : ℕ) → Divides k k
divides_self k = (1, omega arith)

pub divides_zero : (k : ℕ) → Divides k 0
divides_zero k = (0, omega arith)

pub divides_sum : (k a b : ℕ) → Divides k a → Divides k b → Divides k (a + b)
divides_sum k a b d c = (d.0 + c.0, omega (arith, d.1, c.1))

pub divides_times : (k a c : ℕ) → Divides k a → Divides k (c * a)
divides_times k a c d = (c * d.0, ap (λ (x : ℕ). c * x) d.1 ∙ omega arith)

-- what divides a and a + b divides b
pub divides_rest : (k a b : ℕ) → Divides k a → Divides k (a + b) → Divides k b
divides_rest k a b d c = (c.0 - d.0, omega (arith, d.1, c.1, mul-sub k c.0 d.0))

pub divides_rem : (k a b : ℕ) → Divides k a → Divides k b → Divides k (a % b)
divides_rem k a b d c =
    divides_rest k ((a / b) * b) (a % b) (divides_times k b (a / b) c)
    (d.0, omega (arith, div-add-mod a b, d.1))

pub divides_back : (k a b : ℕ) → Divides k b → Divides k (a % b) → Divides k a
divides_back k a b c r =
    let s = divides_sum k ((a / b) * b) (a % b) (divides_times k b (a / b) c) r in
    (s.0, omega (arith, div-add-mod a b, s.1))

pub times_divides : (k g p : ℕ) → Divides k p → Divides (k * g) (p * g)
times_divides k g p d = (d.0, ap (λ (x : ℕ). x * g) d.1 ∙ mul_assoc d.0 k g)

-- a divisor of a positive number is at most it
pub one_divides : (k g : ℕ) → 0 < g → Divides (k * g) g → k ≡ 1
one_divides k g h d =
    let e : 1 * g ≡ (d.0 * k) * g = omega (arith, d.1) in
    let f : 1 ≡ d.0 * k = eq_of_mul-eq-mul_right g h 1 (d.0 * k) e in
    one_factor d.0 k f
  where
    one_factor : (x y : ℕ) → 1 ≡ x * y → y ≡ 1
    one_factor x zero e = absurd (omega arith)
    one_factor x (suc zero) e = refl
    one_factor zero (suc (suc y)) e = absurd (omega arith)
    one_factor (suc x) (suc (suc y)) e = absurd (omega arith)

pub least_is : (n d g : ℕ) → 0 < d → IsGcd n d g → Least n d (record { num = n / g; den = d / g })
least_is n d g h i =
    let p = (i.parts g (divides_self g)).0 in
    let q = (i.parts g (divides_self g)).1 in
    let ep : n / g ≡ p.0 = div-eq_of_eq-mul_left i.positive p.1 in
    let eq : d / g ≡ q.0 = div-eq_of_eq-mul_left i.positive q.1 in
    rw (ep, eq) (go p.0 q.0 p.1 q.1)
  where
    go : (p q : ℕ) → n ≡ p * g → d ≡ q * g → Least n d (record { num = p; den = q })
    go p q e f = record {
      proper = pos_factor q g d h f;
      same = ap (λ (x : ℕ). p * x) f ∙ omega (arith, ap (λ (x : ℕ). x * q) e);
      coprime = λ k a b. one_divides k g i.positive
          (i.common (k * g)
          (subst (λ (x : ℕ). Divides (k * g) x) (sym e) (times_divides k g p a))
          (subst (λ (x : ℕ). Divides (k * g) x) (sym f) (times_divides k g q b)));
    }
      where
        pos_factor : (q g d : ℕ) → 0 < d → d ≡ q * g → 0 < q
        pos_factor zero g d h e = omega arith
        pos_factor (suc q) g d h e = omega arith
