-- A fraction has one form in least terms.
use Rattle.std.proofs.Common.{◌≡◌, ℕ, zero, suc, ◌+◌, ◌-◌, ◌*◌, ◌<◌, ◌≤◌, sym, refl, ap, ◌∙◌, subst, mul-le-mul_right, lt_of_mul-lt-mul_right, le_of_mul-le-mul_right, arith}
use native.Mathlib.Decide.{dec_le}
use Rattle.rules.specs.Fractions.{Fraction, Proper, SameTime, Divides, Coprime}
use Rattle.rules.proofs.Divide.{divides_self, divides_zero, divides_sum}

-- n / d and m / e are one ratio in least terms, so they are one pair: by the subtractive Euclid
abbrev Uniq : ℕ → Type 0
Uniq f = (n d m e : ℕ) → n + d ≤ f → 0 < d → 0 < e → n * e ≡ m * d → Coprime n d → Coprime m e → (n ≡ m) × (d ≡ e)

zero_of : (m d : ℕ) → 0 < d → m * d ≡ 0 → m ≡ 0
zero_of zero d o h = refl
zero_of (suc m) d o h = absurd (omega arith)

at_zero : (d m e : ℕ) → 0 < d → 0 * e ≡ m * d → Coprime 0 d → Coprime m e → (0 ≡ m) × (d ≡ e)
at_zero d m e o s c k =
    let mz : m ≡ 0 = zero_of m d o (omega (arith, s)) in
    let d1 : d ≡ 1 = c d (divides_zero d) (divides_self d) in
    let e1 : e ≡ 1 = k e (subst (λ (x : ℕ). Divides e x) (sym mz) (divides_zero e)) (divides_self e) in
    (sym mz, d1 ∙ sym e1)

module _ (f : ℕ) (ih : Uniq f) where
  over : (n d m e x y : ℕ) → n + d ≤ suc f → 0 < d → 0 < e → n * e ≡ m * d → Coprime n d → Coprime m e → n ≡ x + d → m ≡ y + e → (n ≡ m) × (d ≡ e)
  over n d m e x y b o p s c k ex ey =
      let r = ih x d y e (omega arith) o p
      (omega (arith, s, ap (λ (z : ℕ). z * e) ex, ap (λ (z : ℕ). z * d) ey))
      (λ q u v. c q (subst (λ (z : ℕ). Divides q z) (sym ex) (divides_sum q x d u v)) v)
      (λ q u v. k q (subst (λ (z : ℕ). Divides q z) (sym ey) (divides_sum q y e u v)) v) in
      (omega (arith, r), r.1)

  under : (n d m e x y : ℕ) → n + d ≤ suc f → 0 < n → 0 < x → 0 < y → n * e ≡ m * d → Coprime n d → Coprime m e → d ≡ x + n → e ≡ y + m → (n ≡ m) × (d ≡ e)
  under n d m e x y b o px py s c k ex ey =
      let r = ih n x m y (omega arith) px py
      (omega (arith, s, ap (λ (z : ℕ). n * z) ey, ap (λ (z : ℕ). m * z) ex))
      (λ q u v. c q u (subst (λ (z : ℕ). Divides q z) (sym ex) (divides_sum q x n v u)))
      (λ q u v. k q u (subst (λ (z : ℕ). Divides q z) (sym ey) (divides_sum q y m v u))) in
      (r.0, omega (arith, r))

  step : Uniq (suc f)
  step zero d m e b o p s c k = at_zero d m e o s c k
  step (suc n) d m e b o p s c k = go (dec_le d (suc n))
    where
      go : Dec (d ≤ suc n) → (suc n ≡ m) × (d ≡ e)
      go (yes h) =
          let g : e ≤ m = le_of_mul-le-mul_right {k = d} (omega (arith, s, mul-le-mul_right e h)) o in
          over (suc n) d m e (suc n - d) (m - e) b o p s c k (omega arith) (omega arith)
      go (no h) =
          let l : suc n < d = omega arith in
          let g : m < e = lt_of_mul-lt-mul_right d (omega (arith, s, mul-le-mul_right e l)) in
          under (suc n) d m e (d - suc n) (e - m) b (omega arith) (omega arith) (omega arith) s c k (omega arith) (omega arith)

unique_by : (f : ℕ) → Uniq f
unique_by zero = λ n d m e b o p s c k. absurd (omega arith)
unique_by (suc f) = step f (unique_by f)

-- a time has one form in least terms
pub least_unique : (s t : Fraction) → Proper s → Proper t → SameTime s t → Coprime s.num s.den → Coprime t.num t.den → s ≡ t
least_unique s t ps pt e c k =
    let r = unique_by (s.num + s.den) s.num s.den t.num t.den (omega arith) ps pt e c k in
    λ i. record { num = r.0 i; den = r.1 i }
