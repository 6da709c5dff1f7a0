-- What is computed is in least terms.
use Rattle.std.proofs.Common.{◌≡◌, ℕ, zero, suc, ◌+◌, ◌*◌, ◌%◌, ◌<◌, ◌≤◌, sym, mul-le-mul_right, mod-lt, div-le_self, le_of_mul-le-mul_right, arith}
use Rattle.rules.specs.Fractions.{Fraction, IsGcd, Least, gcd_in, least}
use Rattle.rules.specs.Laws.{AllLeastTerms}
use Rattle.rules.proofs.Divide.{divides_zero, divides_rem, divides_back, least_is}
use Rattle.rules.proofs.Order.{same_trans}
use Rattle.rules.proofs.Unique.{least_unique}

pub gcd_is : (k m n : ℕ) → n < k → 0 < m + n → IsGcd m n (gcd_in k m n)
gcd_is zero m n h o = absurd (omega arith)
gcd_is (suc k) m zero h o = record {
  positive = omega arith;
  parts = λ j d. (d, divides_zero j);
  common = λ j d e. d;
}
gcd_is (suc k) m (suc n) h o =
    let l : m % suc n < suc n = mod-lt m (omega arith) in
    let i = gcd_is k (suc n) (m % suc n) (omega arith) (omega arith) in
    record {
      positive = i.positive;
      parts = λ j d. let p = i.parts j d in (divides_back j m (suc n) p.0 p.1, p.0);
      common = λ j d e. i.common j e (divides_rem j m (suc n) d e);
    }

pub least_right : (n d : ℕ) → 0 < d → Least n d (least n d)
least_right n d h = least_is n d (gcd_in (suc d) n d) h (gcd_is (suc d) n d (omega arith) (omega arith))

-- two forms of n / d in least terms are one
pub least_one : (n d : ℕ) (s t : Fraction) → 0 < d → Least n d s → Least n d t → s ≡ t
least_one n d s t h x y =
    least_unique s t x.proper y.proper
    (same_trans s (record { num = n; den = d }) t h x.same (sym y.same)) x.coprime y.coprime

pub least_terms : AllLeastTerms
least_terms n d h = record {
  right = least_right n d h;
  only = λ t x. least_one n d t (least n d) h x (least_right n d h);
  small = div-le_self d (gcd_in (suc d) n d);
}

-- a form of n / d in least terms has a denominator of at most d, and a value that keeps n / d's bound
pub least_inside : (n d m : ℕ) (t : Fraction) → 0 < d → Least n d t → n ≤ m * d → t.num ≤ m * t.den
least_inside n d m t h x b =
    le_of_mul-le-mul_right {k = d} (omega (arith, x.same, mul-le-mul_right t.den b)) h
