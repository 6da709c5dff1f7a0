-- Exact times as values: fractions of any denominator, their order, and least terms.
use Rattle.std.specs.Prelude.{◌≡◌, ℕ, zero, suc, ◌*◌, ◌/◌, ◌%◌, ◌<◌, ◌≤◌, Bool, cond, ◌&&◌, ◌||◌, Ok, Err, Result, ◌==◌, nat_lt}

-- num / den, in ticks
pub record Fraction : Type 0 where
  pub num : ℕ
  pub den : ℕ

-- it is a number where the denominator is not 0
abbrev pub Proper : Fraction → Type 0
Proper t = 0 < t.den

-- the order of fractions, by cross multiplication
abbrev pub Before : Fraction → Fraction → Type 0
Before s t = s.num * t.den < t.num * s.den

abbrev pub NotAfter : Fraction → Fraction → Type 0
NotAfter s t = s.num * t.den ≤ t.num * s.den

abbrev pub SameTime : Fraction → Fraction → Type 0
SameTime s t = s.num * t.den ≡ t.num * s.den

-- the same as tests: by value, and as plain numbers
abbrev pub is_before : Fraction → Fraction → Bool
is_before s t = nat_lt (s.num * t.den) (t.num * s.den)

abbrev pub is_same : Fraction → Fraction → Bool
is_same s t = s.num == t.num && s.den == t.den

-- P holds on a stretch: at every fraction, of any denominator, strictly between s and t
abbrev pub Throughout : (Fraction → Type 0) → Fraction → Fraction → Type 0
Throughout P s t = (r : Fraction) → Proper r → Before s r → Before r t → P r

-- n is some number times k
abbrev pub Divides : ℕ → ℕ → Type 0
Divides k n = (q : ℕ) × (n ≡ q * k)

-- only 1 divides both
abbrev pub Coprime : ℕ → ℕ → Type 0
Coprime m n = (k : ℕ) → Divides k m → Divides k n → k ≡ 1

-- r divides m and n, and whatever divides both divides r
pub record IsGcd (m n r : ℕ) : Type 0 where
  pub positive : 0 < r
  pub parts : (k : ℕ) → Divides k r → Divides k m × Divides k n
  pub common : (k : ℕ) → Divides k m → Divides k n → Divides k r

-- t is n / d in least terms
pub record Least (n d : ℕ) (t : Fraction) : Type 0 where
  pub proper : Proper t
  pub same : t.num * d ≡ n * t.den
  pub coprime : Coprime t.num t.den

-- Euclid's rule; n steps are enough, since the second number falls
abbrev pub gcd_in : ℕ → ℕ → ℕ → ℕ
gcd_in zero m n = m
gcd_in (suc k) m zero = m
gcd_in (suc k) m (suc n) = gcd_in k (suc n) (m % suc n)

-- n / d in least terms, computed
abbrev pub least : ℕ → ℕ → Fraction
least n d = let g = gcd_in (suc d) n d in record { num = n / g; den = d / g }

abbrev pub tick : ℕ → Fraction
tick i = record { num = i; den = 1 }

-- the whole part of a time: the last tick not after it
abbrev pub whole : Fraction → ℕ
whole t = t.num / t.den

-- a time as the hall can have it: in least terms, its denominator at most 16,000, its value at most 50,000
pub record Usual (t : Fraction) : Type 0 where
  pub proper : Proper t
  pub small : t.den ≤ 16000
  pub inside : t.num ≤ 50000 * t.den
  pub coprime : Coprime t.num t.den

-- whether n / d as given is no time: d is 0 or above 16,000, or the value is above 50,000
abbrev pub no_time : ℕ → ℕ → Bool
no_time n d = d == 0 || nat_lt 16000 d || nat_lt (50000 * d) n

-- what comes of n / d as given: the time in least terms, or refusal 11
abbrev pub time_made : ℕ → ℕ → Result Fraction ℕ
time_made n d = cond (no_time n d) (Err 11) (Ok (least n d))

abbrev pub tick_made : ℕ → Result Fraction ℕ
tick_made i = cond (nat_lt 50000 i) (Err 11) (Ok (tick i))
