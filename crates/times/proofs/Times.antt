-- Times of the code: what their fields say, and that equal values have equal fields.
use Rattle.std.proofs.Common.{◌≡◌, ℕ, ◌*◌, ◌/◌, ◌<◌, ◌≤◌, false, eqb, ltb, Ok, ap, div-le_self, arith, le-ltb, ne_eqb}
use Rattle.rules.specs.Fractions.{Coprime, IsGcd, Least, least, time_made}
use Rattle.rules.proofs.Divide.{one_divides, least_is}
use Rattle.rules.proofs.Made.{least_right, least_one, least_inside}
use Rattle.times.specs.declared.moment.Moment.{Moment}
use Rattle.times.specs.Laws.{EqualFields, TimesUsual}
use Rattle.times.specs.Ordered.{same_time}

pub moment_≡ : (m k : Moment) → m.time ≡ k.time → m.after ≡ k.after → m ≡ k
moment_≡ m k e f i = record { time = e i; after = f i }

pub equal_fields : EqualFields
equal_fields = (same_time, λ m k e. moment_≡ m k (same_time m.time k.time e.0) e.1)

pub times_usual : TimesUsual
times_usual t = record { proper = t.positive; small = t.small; inside = t.inside; coprime = t.least }

-- with 1, everything is in least terms
pub coprime_one : (n : ℕ) → Coprime n 1
coprime_one n k p (q, e) = one_divides k 1 (omega arith) (q, omega (arith, e))

-- what reduction by the greatest common divisor gives
module _ (n d g : ℕ) (h : 0 < d) (s : d ≤ 16000) (b : n ≤ 50000 * d) (i : IsGcd n d g) where
  reduced : Least n d (record { num = n / g; den = d / g })
  reduced = least_is n d g h i

  pub fields_made : (0 < d / g) × ((d / g ≤ 16000) × ((n / g ≤ 50000 * (d / g)) × (Coprime (n / g) (d / g) × Unit {0})))
  fields_made = (
    reduced.proper,
    (
      omega (arith, div-le_self d g),
      (least_inside n d 50000 (record { num = n / g; den = d / g }) h reduced b, (reduced.coprime, tt)),
    ),
  )

  pub value_made : time_made n d ≡ Ok (record { num = n / g; den = d / g })
  value_made =
      let e : eqb d 0 ≡ false = ne_eqb d 0 (omega arith) in
      let f : ltb 16000 d ≡ false = le-ltb 16000 d s in
      let k : ltb (50000 * d) n ≡ false = le-ltb (50000 * d) n b in
      rw (e, f, k) (ap Ok (least_one n d (least n d) (record { num = n / g; den = d / g }) h (least_right n d h) reduced))
