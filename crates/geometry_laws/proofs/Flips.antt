-- Bits on fixed lines: at which side they go wrong, and how often.
use Rattle.std.proofs.Common.{◌≡◌, ℕ, zero, suc, ◌+◌, ◌*◌, ◌<◌, Bool, true, false, not, ◌-ℤ◌, Some, Option, sym, refl, ap, ◌∙◌, subst, inl, arith}
use native.Mathlib.Decide.{dec_le}
use borrow.Author.Differences.{up, down}
use Rattle.rules.specs.Fractions.{Fraction, Proper, Before, NotAfter, tick}
use Rattle.rules.specs.Stamps.{Stamp, Earlier, at, just_after}
use Rattle.rules.specs.Boxes.{Ends, overlap, wrong, fails, FirstWrong, Fails}
use Rattle.rules.proofs.Order.{not_after_before}
use Rattle.rules.proofs.Stamped.{earlier_dec, false_true}
use Rattle.geometry_laws.specs.Certificates.{Slow, SidesTold, AllFlipOnce}
use Rattle.geometry_laws.proofs.Lines.{pos_weak}
use Rattle.geometry_laws.proofs.Behind.{over, under, overlap_in, overlap_over, overlap_under}
use Rattle.geometry_laws.proofs.Lists.{earlier_is, not_earlier_is, not_is_earlier}
use Rattle.geometry_laws.proofs.Soon.{Slopes, amid, amid_after, amid_before}
use Rattle.geometry_laws.proofs.Lately.{lately, lately_proper, lately_before, apart_before}
use Rattle.geometry_laws.proofs.Moments.{at_once_time, overlap_same, at_first, not_between, at_after, not_yet}
use Rattle.geometry_laws.proofs.Certificates.{certificates_right}

-- an overlap just after a time is one at it
pub overlap_late : (p q : Ends) (t : Fraction) → overlap p q (just_after t) ≡ true → overlap p q (at t) ≡ true
overlap_late p q t e = overlap_in p q (at t) (λ x. overlap_over p q (just_after t) e (pos_weak (over p q) t x)) (λ x. overlap_under p q (just_after t) e (pos_weak (under p q) t x))

-- a time after both s and g, and before u
pub between : (s g u : Fraction) → Proper s → Proper g → Proper u → Before s u → Before g u → (r : Fraction) × Proper r × Before s r × Before g r × Before r u
between s g u ps pg pu h k = go (dec_le (g.num * s.den) (s.num * g.den))
  where
    go : Dec (NotAfter g s) → (r : Fraction) × Proper r × Before s r × Before g r × Before r u
    go (yes x) =
        let r = amid s u in
        (r, omega (arith, pu), amid_after s u h, not_after_before g s r pg ps x (amid_after s u h), amid_before s u h)
    go (no x) =
        let r = amid g u in
        (r, omega (arith, pu), not_after_before s g r ps pg (omega arith) (amid_after g u k), amid_after g u k, amid_before g u k)

-- a time after another is after 0
pub after_zero : (s u : Fraction) → Before s u → 0 < u.num
after_zero s u h = go u.num h
  where
    go : (n : ℕ) → s.num * u.den < n * s.den → 0 < n
    go zero h = absurd (omega arith)
    go (suc n) h = omega arith

-- some bound of the slopes of two boxes' differences
pub steepest : (p q : Ends) → (w : ℕ) × Slopes w p q
steepest p q =
    let a = up (p.low.slope -ℤ q.high.slope) + down (p.low.slope -ℤ q.high.slope) in
    let b = up (q.low.slope -ℤ p.high.slope) + down (q.low.slope -ℤ p.high.slope) in
    (a + b, ((omega arith, omega arith), (omega arith, omega arith)))

same_side : (m : Stamp) (s : Bool) → m.after ≡ s → m ≡ record { time = m.time; after = s }
same_side m s e = λ i. record { time = m.time; after = e i }

pub from_some : (bit : Bool) (p q : Ends) (m k : Stamp) → Proper m.time → NotAfter m.time (tick 50000) → Slow p q → fails bit p q m ≡ Some k → FirstWrong bit p q m k
from_some bit p q m k pm im slow e = subst (λ (o : Option Stamp). Fails bit p q m o) e (certificates_right bit p q m pm im slow)

not-true : (x : Bool) → wrong true x ≡ true → x ≡ false
not-true true e = absurd (false_true e)
not-true false e = refl

still_true : (x : Bool) → wrong true x ≡ false → x ≡ true
still_true true e = refl
still_true false e = absurd (false_true (sym e))

clash : (x y : Bool) → x ≡ y → x ≡ true → y ≡ false → ⊥
clash x y e f g = false_true (sym g ∙ sym e ∙ f)

-- a true bit that is right does not go wrong at side 0, nor a false one at side 1
true_late : (p q : Ends) (m : Stamp) (t : Fraction) → Proper m.time → overlap p q m ≡ true → FirstWrong true p q m (at t) → ⊥
true_late p q m t pm r x = go (earlier_dec m (at t))
  where
    off : overlap p q (at t) ≡ false
    off = not-true (overlap p q (at t)) x.wrong_then

    far : Before m.time t → ⊥
    far b =
        let o = after_zero m.time t b in
        let s = steepest p q in
        let z = between m.time (lately s.0 t) t pm (lately_proper s.0 t x.proper) x.proper b (lately_before s.0 t x.proper o) in
        false_true (sym (apart_before s.0 p q t x.proper o s.1 off z.0 z.1 z.3 z.4)
        ∙ still_true (overlap p q (at z.0)) (x.right_before (at z.0) z.1 (not_earlier_is (at z.0) m (not_yet m z.0 z.2)) (earlier_is (at z.0) (at t) (inl z.4))))

    go : Dec (Earlier m (at t)) → ⊥
    go (yes h) = far (at_after m t h)
    go (no h) =
        let e = at_once_time m (at t) (not_is_earlier (at t) m x.since) h in
        clash (overlap p q m) (overlap p q (at t)) (overlap_same p q m (at t) pm x.proper e.0 e.1) r off

false_early : (p q : Ends) (m : Stamp) (t : Fraction) → Proper m.time → overlap p q m ≡ false → FirstWrong false p q m (just_after t) → ⊥
false_early p q m t pm r x = go (earlier_dec (at t) m)
  where
    go : Dec (Earlier (at t) m) → ⊥
    go (yes h) =
        let e = at_once_time (just_after t) m (λ y. not_between m t y h) (not_is_earlier (just_after t) m x.since) in
        clash (overlap p q (just_after t)) (overlap p q m) (overlap_same p q (just_after t) m x.proper pm e.0 e.1) x.wrong_then r
    go (no h) =
        false_true (sym (x.right_before (at t) x.proper (not_earlier_is (at t) m h) (earlier_is (at t) (just_after t) (at_first t))) ∙ overlap_late p q t x.wrong_then)

pub sides_told : SidesTold
sides_told bit p q m k pm im slow r e = go bit k.after refl (from_some bit p q m k pm im slow e) r
  where
    go : (bit s : Bool) → k.after ≡ s → FirstWrong bit p q m k → wrong bit (overlap p q m) ≡ false → k.after ≡ bit
    go true true f x r = f
    go false false f x r = f
    go true false f x r = absurd (true_late p q m k.time pm (still_true (overlap p q m) r) (subst (λ (k : Stamp). FirstWrong true p q m k) (same_side k false f) x))
    go false true f x r = absurd (false_early p q m k.time pm r (subst (λ (k : Stamp). FirstWrong false p q m k) (same_side k true f) x))

pub flipped_right : (bit x : Bool) → wrong bit x ≡ true → wrong (not bit) x ≡ false
flipped_right true true e = absurd (false_true e)
flipped_right true false e = refl
flipped_right false true e = refl
flipped_right false false e = absurd (false_true e)

-- what is right at k first goes wrong after it
pub fails_later : (bit : Bool) (p q : Ends) (k j : Stamp) → Proper k.time → wrong bit (overlap p q k) ≡ false → FirstWrong bit p q k j → Earlier k j
fails_later bit p q k j pk r x = go (earlier_dec k j)
  where
    go : Dec (Earlier k j) → Earlier k j
    go (yes h) = h
    go (no h) =
        let e = at_once_time j k h (not_is_earlier j k x.since) in
        absurd (clash (wrong bit (overlap p q j)) (wrong bit (overlap p q k)) (ap (wrong bit) (overlap_same p q j k x.proper pk e.0 e.1)) x.wrong_then r)

pub flips_once : AllFlipOnce
flips_once bit p q m k pm im slow e =
    let x = from_some bit p q m k pm im slow e in
    let f = flipped_right bit (overlap p q k) x.wrong_then in
    record {
      flipped = f;
      once = λ j g. earlier_is k j (fails_later (not bit) p q k j x.proper f (from_some (not bit) p q k j x.proper x.inside slow g));
    }
