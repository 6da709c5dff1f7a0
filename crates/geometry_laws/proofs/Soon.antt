-- Just after a time: what holds at side 1 holds on a stretch.
use Rattle.std.proofs.Common.{◌≡◌, ℕ, ◌+◌, ◌*◌, ◌<◌, ◌≤◌, refl, inl, inr, mul-le-mul_right, lt_of_mul-lt-mul_right, mul-le-mul_left, mul-pos, arith}
use native.Mathlib.Decide.{dec_le, dec_lt}
use borrow.Author.Differences.{up, down}
use Rattle.rules.specs.Fractions.{Fraction, Proper, Before, Throughout}
use Rattle.rules.specs.Stamps.{at, just_after}
use Rattle.rules.specs.Paths.{Line}
use Rattle.rules.specs.Boxes.{Ends, overlap}
use Rattle.rules.proofs.Order.{rearrange}
use Rattle.rules.proofs.Stamped.{false_true}
use Rattle.geometry_laws.proofs.Lines.{Pos, lo, hi, up_over, down_≤, pos_dec}
use Rattle.geometry_laws.proofs.Behind.{over, under, overlap_like}

-- so soon after t that no line with a slope of at most w changes its sign but at t
abbrev pub soon : ℕ → Fraction → Fraction
soon w t = record { num = t.num * (w + 1) + 1; den = t.den * (w + 1) }

pub soon_proper : (w : ℕ) (t : Fraction) → Proper t → Proper (soon w t)
soon_proper w t p = mul-pos p (omega arith)

pub soon_later : (w : ℕ) (t : Fraction) → Proper t → Before t (soon w t)
soon_later w t p = omega (arith, p)

-- over naturals: (a − b) + (p − q) t is positive at n / d and at n' / d', soon after
pub keeps : (a b p q n d n' d' w : ℕ) → 0 < d → q ≤ w → n * d' < n' * d → n' * (d * (w + 1)) < (n * (w + 1) + 1) * d' → b * d + q * n < a * d + p * n → b * d' + q * n' < a * d' + p * n'
keeps a b p q n d n' d' w o l h k x =
    let e : n * d' ≤ n' * d = omega arith in
    let g : q * (n' * d) + w * (n * d') ≤ q * (n * d') + w * (n' * d) = sub_mono q w (n * d') (n' * d) l e in
    lt_of_mul-lt-mul_right d (omega (arith, mul-le-mul_right d' x, g, mul-le-mul_left p e))
  where
    sub_mono : (q w x y : ℕ) → q ≤ w → x ≤ y → q * y + w * x ≤ q * x + w * y
    sub_mono q w x y h k = omega (arith, rearrange w q x y h k)

-- a time between two
abbrev pub amid : Fraction → Fraction → Fraction
amid s t = record { num = s.num + t.num; den = s.den + t.den }

pub amid_after : (s t : Fraction) → Before s t → Before s (amid s t)
amid_after s t h = omega arith

pub amid_before : (s t : Fraction) → Before s t → Before (amid s t) t
amid_before s t h = omega arith

module _ (l : Line) (t r : Fraction) (w : ℕ) (pt : Proper t) (pr : Proper r) (u : up l.slope ≤ w) (d : down l.slope ≤ w) (b : Before t r) (k : Before r (soon w t)) where
  keeps_up : lo l t < hi l t → lo l r < hi l r
  keeps_up x = keeps (up l.base) (down l.base) (up l.slope) (down l.slope) t.num t.den r.num r.den w pt d b k x

  keeps_down : hi l t < lo l t → hi l r < lo l r
  keeps_down x = keeps (down l.base) (up l.base) (down l.slope) (up l.slope) t.num t.den r.num r.den w pt u b k x

  pub after_pos : Pos l (just_after t) → Pos l (at r)
  after_pos (inl x) = inl (keeps_up x)
  after_pos (inr x) = inl (up_over l t r pt pr x.2 b (omega (arith, x.1)))

  pub after_not : ¬ (Pos l (just_after t)) → ¬ (Pos l (at r))
  after_not n (inr y) = false_true y.0
  after_not n (inl y) = go (dec_le (lo l t) (hi l t)) (dec_lt (down l.slope) (up l.slope))
    where
      go : Dec (lo l t ≤ hi l t) → Dec (down l.slope < up l.slope) → ⊥
      go (no x) z = omega (arith, y, keeps_down (omega arith))
      go (yes x) z = level (dec_lt (lo l t) (hi l t)) z
        where
          level : Dec (lo l t < hi l t) → Dec (down l.slope < up l.slope) → ⊥
          level (yes p) z = n (inl p)
          level (no p) (yes z) = n (inr (refl, omega arith, z))
          level (no p) (no z) = omega (arith, y, down_≤ l t r pt pr (omega arith) (omega arith) (omega arith))

-- a line whose slope is at most w, either way
abbrev pub Slope : ℕ → Line → Type 0
Slope w l = (up l.slope ≤ w) × (down l.slope ≤ w)

-- both differences of two boxes
abbrev pub Slopes : ℕ → Ends → Ends → Type 0
Slopes w p q = Slope w (over p q) × Slope w (under p q)

pub overlap_after : (w : ℕ) (p q : Ends) (t : Fraction) → Proper t → Slopes w p q → Throughout (λ r. overlap p q (at r) ≡ overlap p q (just_after t)) t (soon w t)
overlap_after w p q t pt s r pr b k =
    overlap_like p q (at r) (just_after t) (back (over p q) s.0) (forth (over p q) s.0) (back (under p q) s.1) (forth (under p q) s.1)
  where
    forth : (l : Line) → Slope w l → Pos l (just_after t) → Pos l (at r)
    forth l s x = after_pos l t r w pt pr s.0 s.1 b k x

    back : (l : Line) → Slope w l → Pos l (at r) → Pos l (just_after t)
    back l s x = go (pos_dec l (just_after t))
      where
        go : Dec (Pos l (just_after t)) → Pos l (just_after t)
        go (yes y) = y
        go (no y) = absurd (after_not l t r w pt pr s.0 s.1 b k y x)
