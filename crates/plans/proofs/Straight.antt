-- A path runs on one line until its next break.
use Rattle.std.proofs.Common.{◌≡◌, ℕ, zero, suc, ◌+◌, ◌-◌, ◌*◌, ◌<◌, ◌≤◌, ℤ, pos, ◌+ℤ◌, ◌-ℤ◌, ◌*ℤ◌, Some, None, Option, sym, refl, ap, ◌∙◌, mul-le-mul_right, le_antisymm, le-div_iff_mul-le, le_of_mul-le-mul_right, arith}
use native.Mathlib.Decide.{dec_lt}
use native.Mathlib.Nat.{div-eq_of_eq-mul_left}
use borrow.Author.Differences.{ints}
use Rattle.rules.specs.Basics.{◌∈◌}
use Rattle.rules.specs.Fractions.{Fraction, Proper, Before, tick, whole}
use Rattle.rules.specs.Paths.{Axis, Line, Path, leg, value, position, first_after, speed_at, line_at}
use Rattle.rules.proofs.Ring.{distr, assoc, neg_times}
use Rattle.plans.specs.Laws.{NotPast, LineHolds, LeastAfter}
use Rattle.plans.proofs.Breaks.{first_after_least}

pub line_≡ : (l k : Line) → l.base ≡ k.base → l.slope ≡ k.slope → l ≡ k
line_≡ l k e f = λ i. record { base = e i; slope = f i }

-- the slope is the same from tick b until tick e
abbrev Straight : Path → Axis → ℕ → ℕ → Type 0
Straight p a b e = (i : ℕ) → b ≤ i → suc i < e → speed_at p a (suc i) ≡ speed_at p a i

-- one tick on, with the same slope, the line is the same
next_base : (x y z v v' : ℤ) (i : ℕ) → v ≡ y -ℤ x → v' ≡ z -ℤ y → v' ≡ v → y -ℤ (v' *ℤ pos (suc i)) ≡ x -ℤ (v *ℤ pos i)
next_base x y z v v' i e f g = rw g (omega (arith, ints, e))

module _ (p : Path) (a : Axis) where
  line_next : (i : ℕ) → speed_at p a (suc i) ≡ speed_at p a i → line_at p a (suc i) ≡ line_at p a i
  line_next i e =
      line_≡ (line_at p a (suc i)) (line_at p a i)
      (next_base (p.place a i) (p.place a (suc i)) (p.place a (suc (suc i))) (speed_at p a i) (speed_at p a (suc i)) i refl refl e) e

  line_same : (b e : ℕ) → Straight p a b e → (k : ℕ) → b + k < e → line_at p a (b + k) ≡ line_at p a b
  line_same b e s zero h = ap (line_at p a) (omega arith)
  line_same b e s (suc k) h =
      ap (line_at p a) (omega arith) ∙ line_next (b + k) (s (b + k) (omega arith) (omega arith)) ∙ line_same b e s k (omega arith)

-- over variables: x - v i, times d, and v n
value_from : (x v : ℤ) (i n k d : ℕ) → n ≡ i * d + k → ((x -ℤ (v *ℤ pos i)) *ℤ pos d) +ℤ (v *ℤ pos n) ≡ (x *ℤ pos d) +ℤ (v *ℤ pos k)
value_from x v i n k d e = rw e (simp (distr, neg_times, assoc) (omega (arith, ints)))

at_end : (x y : ℤ) (d : ℕ) → (x *ℤ pos d) +ℤ ((y -ℤ x) *ℤ pos d) ≡ y *ℤ pos d
at_end x y d = simp (distr, neg_times) (omega (arith, ints))

at_zero : (x v : ℤ) → x +ℤ (v *ℤ pos 0) ≡ x
at_zero x v = omega (arith, ints)

module _ (p : Path) (a : Axis) where
  -- k / d past tick i, the line from i is at its place plus slope × k / d
  line_value : (i k : ℕ) (t : Fraction) → t.num ≡ i * t.den + k → value (line_at p a i) t ≡ (p.place a i *ℤ pos t.den) +ℤ (speed_at p a i *ℤ pos k)
  line_value i k t f = value_from (p.place a i) (speed_at p a i) i t.num k t.den f

  -- the line from i ends where the path is at the next tick: the path does not jump
  line_end : (i : ℕ) (t : Fraction) → t.num ≡ suc i * t.den → value (line_at p a i) t ≡ p.place a (suc i) *ℤ pos t.den
  line_end i t e = line_value i t.den t (omega (arith, e)) ∙ at_end (p.place a i) (p.place a (suc i)) t.den

  line_start : (i : ℕ) (t : Fraction) → t.num ≡ i * t.den → value (line_at p a i) t ≡ p.place a i *ℤ pos t.den
  line_start i t e = line_value i 0 t (omega (arith, e)) ∙ at_zero (p.place a i *ℤ pos t.den) (speed_at p a i)

  -- on a straight stretch, its two ends included, the path is on the line of the first tick
  place_straight : (b e : ℕ) (t : Fraction) → Straight p a b e → b < e → Proper t → b * t.den ≤ t.num → t.num ≤ e * t.den → position p a t ≡ value (line_at p a b) t
  place_straight b e t s o pt h k = go (dec_lt (whole t) e)
    where
      w_ge : b ≤ whole t
      w_ge = (le-div_iff_mul-le pt).1 h

      go : Dec (whole t < e) → position p a t ≡ value (line_at p a b) t
      go (yes x) =
          let f : whole t ≡ b + (whole t - b) = omega (arith, w_ge) in
          ap (λ (l : Line). value l t) (ap (line_at p a) f ∙ line_same p a b e s (whole t - b) (omega (arith, w_ge)))
      go (no x) =
          let m : e ≤ whole t = omega arith in
          let n : t.num ≡ e * t.den = le_antisymm k ((le-div_iff_mul-le pt).0 m) in
          let w : whole t ≡ e = div-eq_of_eq-mul_left pt n in
          ap (λ (i : ℕ). value (line_at p a i) t) w ∙ line_start e t n ∙ last_line n
        where
          last_line : t.num ≡ e * t.den → p.place a e *ℤ pos t.den ≡ value (line_at p a b) t
          last_line n =
              let f : e ≡ suc (b + (e - suc b)) = omega arith in
              ap (λ (i : ℕ). p.place a i *ℤ pos t.den) f
              ∙ sym (line_end (b + (e - suc b)) t (n ∙ ap (λ (i : ℕ). i * t.den) f))
              ∙ ap (λ (l : Line). value l t) (line_same p a b e s (e - suc b) (omega arith))

-- tick k comes after s exactly if it is above the whole part of s
pub after_whole : (s : Fraction) (k : ℕ) → Proper s → Before s (tick k) → whole s < k
after_whole s k ps h = go (dec_lt (whole s) k)
  where
    go : Dec (whole s < k) → whole s < k
    go (yes x) = x
    go (no x) = let m : k ≤ whole s = omega arith in absurd (omega (arith, h, (le-div_iff_mul-le ps).0 m))

pub whole_after : (s : Fraction) (k : ℕ) → Proper s → whole s < k → Before s (tick k)
whole_after s k ps h = go (dec_lt s.num (k * s.den))
  where
    go : Dec (s.num < k * s.den) → Before s (tick k)
    go (yes x) = omega (arith, x)
    go (no x) = let m : k * s.den ≤ s.num = omega arith in absurd (omega (arith, (le-div_iff_mul-le ps).1 m))

pub line_holds : LineHolds
line_holds p turns s t ps pt st np a = by (first_after s p.breaks) (first_after_least s p.breaks) np
  where
    low : whole s * s.den ≤ s.num
    low = (le-div_iff_mul-le ps).0 (omega arith)

    from : whole s * t.den ≤ t.num
    from = le_of_mul-le-mul_right {k = s.den} (omega (arith, st, mul-le-mul_right t.den low)) ps

    straight : (e : ℕ) → ((i : ℕ) → suc i ∈ p.breaks → whole s ≤ i → suc i < e → ⊥) → Straight p a (whole s) e
    straight e f i h k = turns a i (λ m. f i m h k)

    by : (o : Option ℕ) → LeastAfter s p.breaks o → NotPast t o → value (leg p s a) t ≡ position p a t
    by None l n = sym (place_straight p a (whole s) (suc (suc (whole t))) t
        (straight (suc (suc (whole t))) (λ i m h k. l (suc i) m (whole_after s (suc i) ps (omega arith))))
        (omega (arith, mono)) pt from (omega (arith, past)))
      where
        mono : whole s ≤ whole t
        mono = (le-div_iff_mul-le pt).1 from

        past : t.num < suc (whole t) * t.den
        past = omega (arith, whole_after t (suc (whole t)) pt (omega arith))
    by (Some k) l n = sym (place_straight p a (whole s) k t
        (straight k (λ i m h q. let z = l.2 (suc i) m (whole_after s (suc i) ps (omega arith)) in omega arith))
        (after_whole s k ps l.1) pt from (omega (arith, n)))
