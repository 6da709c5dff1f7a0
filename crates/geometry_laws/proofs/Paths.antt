-- Paths and their legs: on a straight stretch a path runs on one line, and at the end of it too.
use Rattle.std.proofs.Common.{◌≡◌, ℕ, zero, suc, ◌+◌, ◌-◌, ◌*◌, ◌<◌, ◌≤◌, ℤ, pos, ◌+ℤ◌, ◌-ℤ◌, ◌*ℤ◌, sym, refl, ap, ◌∙◌, mul-le-mul_right, div-lt_iff_lt-mul, le_antisymm, le-div_iff_mul-le, div-mul-le_self, le_of_mul-le-mul_right, arith}
use native.Mathlib.Decide.{dec_lt}
use native.Mathlib.Nat.{lt-div-mul-add, div-eq_of_eq-mul_left}
use borrow.Author.Differences.{ints}
use Rattle.rules.specs.Basics.{◌∈◌}
use Rattle.rules.specs.Fractions.{Fraction, Proper, NotAfter, SameTime, whole}
use Rattle.rules.specs.Paths.{Axis, Line, Path, speed_at, line_at, leg, value, position, Kept}
use Rattle.rules.proofs.Ring.{distr, assoc, neg_times}

-- on the axis the slope changes at no tick strictly between b and e
abbrev pub Straight : Path → Axis → ℕ → ℕ → Type 0
Straight p a b e = (i : ℕ) → b ≤ i → suc i < e → speed_at p a (suc i) ≡ speed_at p a i

pub one_tick : (p : Path) (a : Axis) (b : ℕ) → Straight p a b (suc b)
one_tick p a b i h k = absurd (omega arith)

-- a path that keeps the rules is straight where it has no break
pub kept_straight : (s : ℕ) (p : Path) → Kept s p → (a : Axis) (b e : ℕ) → ((i : ℕ) → b < i → i < e → ¬ (i ∈ p.breaks)) → Straight p a b e
kept_straight s p k a b e n i h l = k.turns a i (n (suc i) (omega arith) l)

line_≡ : (l k : Line) → l.base ≡ k.base → l.slope ≡ k.slope → l ≡ k
line_≡ l k e f = λ i. record { base = e i; slope = f i }

-- one tick on, with the same slope, the line is the same
next_base : (x y z v v' : ℤ) (i : ℕ) → v ≡ y -ℤ x → v' ≡ z -ℤ y → v' ≡ v → y -ℤ (v' *ℤ pos (suc i)) ≡ x -ℤ (v *ℤ pos i)
next_base x y z v v' i e f g = rw g (omega (arith, ints, e))

pub leg_next : (p : Path) (a : Axis) (i : ℕ) → speed_at p a (suc i) ≡ speed_at p a i → line_at p a (suc i) ≡ line_at p a i
leg_next p a i e =
    line_≡ (line_at p a (suc i)) (line_at p a i)
    (next_base (p.place a i) (p.place a (suc i)) (p.place a (suc (suc i))) (speed_at p a i) (speed_at p a (suc i)) i refl refl e) e

pub leg_same : (p : Path) (a : Axis) (b e : ℕ) → Straight p a b e → (k : ℕ) → b + k < e → line_at p a (b + k) ≡ line_at p a b
leg_same p a b e s zero h = ap (line_at p a) (omega arith)
leg_same p a b e s (suc k) h =
    ap (line_at p a) (omega arith) ∙ leg_next p a (b + k) (s (b + k) (omega arith) (omega arith)) ∙ leg_same p a b e s k (omega arith)

-- a path that agrees with the line at two ticks runs on it between them
pub leg_by : (p : Path) (a : Axis) (i : ℕ) (x v : ℤ) → p.place a i ≡ x +ℤ (v *ℤ pos i) → p.place a (suc i) ≡ x +ℤ (v *ℤ pos (suc i)) → line_at p a i ≡ record { base = x; slope = v }
leg_by p a i x v e f =
    let s : speed_at p a i ≡ v = go (p.place a i) (p.place a (suc i)) e f in
    line_≡ (line_at p a i) (record { base = x; slope = v }) (rw s (go' (p.place a i) e)) s
  where
    go : (y z : ℤ) → y ≡ x +ℤ (v *ℤ pos i) → z ≡ x +ℤ (v *ℤ pos (suc i)) → z -ℤ y ≡ v
    go y z e f = omega (arith, ints, e, f)

    go' : (y : ℤ) → y ≡ x +ℤ (v *ℤ pos i) → y -ℤ (v *ℤ pos i) ≡ x
    go' y e = omega (arith, ints, e)

-- ---- between ticks, and at them
-- over variables: x - v i, times d, and v n
value_from : (x v : ℤ) (i n k d : ℕ) → n ≡ i * d + k → ((x -ℤ (v *ℤ pos i)) *ℤ pos d) +ℤ (v *ℤ pos n) ≡ (x *ℤ pos d) +ℤ (v *ℤ pos k)
value_from x v i n k d e = rw e (simp (distr, neg_times, assoc) (omega (arith, ints)))

-- k / d past tick i, the leg from i is at its position there and slope × k / d more
pub leg_value : (p : Path) (a : Axis) (i k d : ℕ) (t : Fraction) → t.den ≡ d → t.num ≡ i * d + k → value (line_at p a i) t ≡ (p.place a i *ℤ pos d) +ℤ (speed_at p a i *ℤ pos k)
leg_value p a i k d t e f = rw e (value_from (p.place a i) (speed_at p a i) i t.num k d f)

-- the leg from i ends where the path is at the next tick: the path does not jump
at_end : (x y : ℤ) (d : ℕ) → (x *ℤ pos d) +ℤ ((y -ℤ x) *ℤ pos d) ≡ y *ℤ pos d
at_end x y d = simp (distr, neg_times) (omega (arith, ints))

pub leg_end : (p : Path) (a : Axis) (i : ℕ) (t : Fraction) → t.num ≡ suc i * t.den → value (line_at p a i) t ≡ p.place a (suc i) *ℤ pos t.den
leg_end p a i t e = leg_value p a i t.den t.den t refl (omega (arith, e)) ∙ at_end (p.place a i) (p.place a (suc i)) t.den

pub leg_start : (p : Path) (a : Axis) (i : ℕ) (t : Fraction) → t.num ≡ i * t.den → value (line_at p a i) t ≡ p.place a i *ℤ pos t.den
leg_start p a i t e = leg_value p a i 0 t.den t refl (omega (arith, e)) ∙ at_zero (p.place a i *ℤ pos t.den) (speed_at p a i)
  where
    at_zero : (x v : ℤ) → x +ℤ (v *ℤ pos 0) ≡ x
    at_zero x v = omega (arith, ints)

-- on a straight stretch, its two ends included, the path is on the line of the first tick
pub place_straight : (p : Path) (a : Axis) (b e : ℕ) (t : Fraction) → Straight p a b e → b < e → Proper t → b * t.den ≤ t.num → t.num ≤ e * t.den → position p a t ≡ value (line_at p a b) t
place_straight p a b e t s o pt h k = go (dec_lt (whole t) e)
  where
    w_ge : b ≤ whole t
    w_ge = (le-div_iff_mul-le pt).1 h

    go : Dec (whole t < e) → position p a t ≡ value (line_at p a b) t
    go (yes x) =
        let f : whole t ≡ b + (whole t - b) = omega (arith, w_ge) in
        ap (λ (l : Line). value l t) (ap (line_at p a) f ∙ leg_same p a b e s (whole t - b) (omega (arith, w_ge)))
    go (no x) =
        let m : e ≤ whole t = omega arith in
        let n : t.num ≡ e * t.den = le_antisymm k ((le-div_iff_mul-le pt).0 m) in
        let w : whole t ≡ e = div-eq_of_eq-mul_left pt n in
        ap (λ (i : ℕ). value (line_at p a i) t) w ∙ leg_start p a e t n ∙ last_line n
      where
        last_line : t.num ≡ e * t.den → p.place a e *ℤ pos t.den ≡ value (line_at p a b) t
        last_line n =
            let f : e ≡ suc (b + (e - suc b)) = omega arith in
            ap (λ (i : ℕ). p.place a i *ℤ pos t.den) f
            ∙ sym (leg_end p a (b + (e - suc b)) t (n ∙ ap (λ (i : ℕ). i * t.den) f))
            ∙ ap (λ (l : Line). value l t) (leg_same p a b e s (e - suc b) (omega arith))

-- before the next break the leg read at b is the leg still
pub same_leg : (p : Path) (a : Axis) (b e : ℕ) (t : Fraction) → Straight p a b e → Proper t → b * t.den ≤ t.num → t.num < e * t.den → leg p t a ≡ line_at p a b
same_leg p a b e t s pt x y =
    let w : b ≤ whole t = (le-div_iff_mul-le pt).1 x in
    let v : whole t < e = (div-lt_iff_lt-mul pt).1 y in
    let f : whole t ≡ b + (whole t - b) = omega arith in
    ap (line_at p a) f ∙ leg_same p a b e s (whole t - b) (omega arith)

-- ---- the tick that a time is in
pub whole_mono : (s t : Fraction) → Proper s → Proper t → NotAfter s t → whole s ≤ whole t
whole_mono s t p q h = (le-div_iff_mul-le q).1 (cancel (whole s) (div-mul-le_self s.num s.den))
  where
    cancel : (i : ℕ) → i * s.den ≤ s.num → i * t.den ≤ t.num
    cancel i g = fin (omega (arith, mul-le-mul_right t.den g, h))
      where
        fin : (i * t.den) * s.den ≤ t.num * s.den → i * t.den ≤ t.num
        fin g = le_of_mul-le-mul_right g p

pub whole_same : (s t : Fraction) → Proper s → Proper t → SameTime s t → whole s ≡ whole t
whole_same s t p q e = le_antisymm (whole_mono s t p q (omega (arith, e))) (whole_mono t s q p (omega (arith, e)))

pub start_ok : (t : Fraction) → whole t * t.den ≤ t.num
start_ok t = div-mul-le_self t.num t.den

pub end_ok : (t : Fraction) → Proper t → t.num < suc (whole t) * t.den
end_ok t pt = omega (arith, lt-div-mul-add {a = t.num} pt)
