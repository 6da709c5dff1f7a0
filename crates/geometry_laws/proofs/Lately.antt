-- Just before a time: an overlap holds throughout a stretch, or fails throughout it.
use Rattle.std.proofs.Common.{◌≡◌, ℕ, zero, suc, ◌+◌, ◌-◌, ◌*◌, ◌<◌, ◌≤◌, true, false, ◌⊎◌, sym, refl, ap, ◌∙◌, inl, inr, ⊎_elim, mul-le-mul_right, lt_of_mul-lt-mul_right, mul-le-mul_left, mul-pos, arith}
use native.Mathlib.Decide.{dec_lt}
use borrow.Author.Differences.{up, down}
use Rattle.rules.specs.Fractions.{Fraction, Proper, Before, Throughout}
use Rattle.rules.specs.Stamps.{at}
use Rattle.rules.specs.Paths.{Line}
use Rattle.rules.specs.Boxes.{Ends, overlap}
use Rattle.rules.proofs.Order.{rearrange}
use Rattle.rules.proofs.Stamped.{false_true}
use Rattle.geometry_laws.proofs.Lines.{Pos, lo, hi, down_from, rise_<, pos_dec}
use Rattle.geometry_laws.proofs.Behind.{over, under, overlap_in, apart_over, apart_under}
use Rattle.geometry_laws.proofs.Soon.{Slopes}

-- so lately before t that no line with a slope of at most w changes its sign but at t
abbrev pub lately : ℕ → Fraction → Fraction
lately w t = record { num = t.num * (w + 1) - 1; den = t.den * (w + 1) }

pub lately_proper : (w : ℕ) (t : Fraction) → Proper t → Proper (lately w t)
lately_proper w t p = mul-pos p (omega arith)

pub lately_before : (w : ℕ) (t : Fraction) → Proper t → 0 < t.num → Before (lately w t) t
lately_before w t p n = go (t.num * (w + 1)) (mul-pos n (omega arith)) refl
  where
    go : (x : ℕ) → 0 < x → t.num * (w + 1) ≡ x → (t.num * (w + 1) - 1) * t.den < t.num * (t.den * (w + 1))
    go (suc x) h e = let f : suc x - 1 ≡ x = omega arith in rw (e, f) (omega (arith, p, ap (λ (k : ℕ). k * t.den) e))
    go zero h e = absurd (omega arith)

keeps : (a b p q n d n' d' w : ℕ) → p ≤ w → n' * d < n * d' → n * (w + 1) * d' < n' * (d * (w + 1)) + d' → b * d + q * n < a * d + p * n → b * d' + q * n' < a * d' + p * n'
keeps a b p q n d n' d' w l h k x =
    let e : n' * d ≤ n * d' = omega arith in
    lt_of_mul-lt-mul_right d (omega (arith, mul-le-mul_right d' x, rearrange w p (n' * d) (n * d') l e, mul-le-mul_left q e))

-- after lately w t, without the subtraction
pub within : (w : ℕ) (t r : Fraction) → 0 < t.num → Before (lately w t) r → t.num * (w + 1) * r.den < r.num * (t.den * (w + 1)) + r.den
within w t r n h = go (t.num * (w + 1)) (mul-pos n (omega arith)) h
  where
    go : (x : ℕ) → 0 < x → (x - 1) * r.den < r.num * (t.den * (w + 1)) → x * r.den < r.num * (t.den * (w + 1)) + r.den
    go (suc x) o h = let f : suc x - 1 ≡ x = omega arith in let h' : x * r.den < r.num * (t.den * (w + 1)) = rw f at h in omega arith
    go zero o h = absurd (omega arith)

-- what the line is just before t
abbrev pub Prior : Line → Fraction → Type 0
Prior l t = (lo l t < hi l t) ⊎ ((lo l t ≡ hi l t) × (up l.slope < down l.slope))

module _ (l : Line) (t r : Fraction) (w : ℕ) (pt : Proper t) (pr : Proper r) (o : 0 < t.num) (u : up l.slope ≤ w) (d : down l.slope ≤ w) (b : Before r t) (k : Before (lately w t) r) where
  back_up : lo l t < hi l t → lo l r < hi l r
  back_up x = keeps (up l.base) (down l.base) (up l.slope) (down l.slope) t.num t.den r.num r.den w u b (within w t r o k) x

  back_down : hi l t < lo l t → hi l r < lo l r
  back_down x = keeps (down l.base) (up l.base) (down l.slope) (up l.slope) t.num t.den r.num r.den w d b (within w t r o k) x

  pub prior_pos : Prior l t → Pos l (at r)
  prior_pos (inl x) = inl (back_up x)
  prior_pos (inr x) = inl (down_from l r t pr pt x.1 b (omega (arith, x.0)))

  pub prior_not : ¬ (Prior l t) → ¬ (Pos l (at r))
  prior_not n (inr y) = false_true y.0
  prior_not n (inl y) = go (dec_lt (lo l t) (hi l t)) (dec_lt (hi l t) (lo l t)) (dec_lt (up l.slope) (down l.slope))
    where
      go : Dec (lo l t < hi l t) → Dec (hi l t < lo l t) → Dec (up l.slope < down l.slope) → ⊥
      go (yes x) f g = n (inl x)
      go (no x) (yes f) g = omega (arith, y, back_down f)
      go (no x) (no f) (yes g) = n (inr (omega arith, g))
      go (no x) (no f) (no g) =
          let z = rise_< (up l.base) (down l.base) (up l.slope) (down l.slope) r.num r.den t.num t.den pr pt (omega arith) (omega arith) y in
          omega arith

pub prior_dec : (l : Line) (t : Fraction) → Dec (Prior l t)
prior_dec l t = go (dec_lt (lo l t) (hi l t)) (dec_lt (hi l t) (lo l t)) (dec_lt (up l.slope) (down l.slope))
  where
    go : Dec (lo l t < hi l t) → Dec (hi l t < lo l t) → Dec (up l.slope < down l.slope) → Dec (Prior l t)
    go (yes x) f g = yes (inl x)
    go (no x) (yes f) g = no λ p. ⊎_elim x (λ q. omega (arith, q.0)) p
    go (no x) (no f) (yes g) = yes (inr (omega arith, g))
    go (no x) (no f) (no g) = no λ p. ⊎_elim x (λ q. g q.1) p

-- just before t two boxes overlap throughout, or are apart throughout
pub settled_before : (w : ℕ) (p q : Ends) (t : Fraction) → Proper t → 0 < t.num → Slopes w p q →
    (Throughout (λ r. overlap p q (at r) ≡ true) (lately w t) t) ⊎ (Throughout (λ r. overlap p q (at r) ≡ false) (lately w t) t)
settled_before w p q t pt o s = go (prior_dec (over p q) t) (prior_dec (under p q) t)
  where
    go : Dec (Prior (over p q) t) → Dec (Prior (under p q) t) → (Throughout (λ r. overlap p q (at r) ≡ true) (lately w t) t) ⊎ (Throughout (λ r. overlap p q (at r) ≡ false) (lately w t) t)
    go (yes x) y = inr (λ r pr k b. apart_over p q (at r) (prior_pos (over p q) t r w pt pr o s.0.0 s.0.1 b k x))
    go (no x) (yes y) = inr (λ r pr k b. apart_under p q (at r) (prior_pos (under p q) t r w pt pr o s.1.0 s.1.1 b k y))
    go (no x) (no y) = inl (λ r pr k b. overlap_in p q (at r) (prior_not (over p q) t r w pt pr o s.0.0 s.0.1 b k x) (prior_not (under p q) t r w pt pr o s.1.0 s.1.1 b k y))

-- what is apart at t itself was apart just before it
pub apart_before : (w : ℕ) (p q : Ends) (t : Fraction) → Proper t → 0 < t.num → Slopes w p q → overlap p q (at t) ≡ false → Throughout (λ r. overlap p q (at r) ≡ false) (lately w t) t
apart_before w p q t pt o s e = go (pos_dec (over p q) (at t)) (pos_dec (under p q) (at t))
  where
    prior : (l : Line) → Pos l (at t) → Prior l t
    prior l (inl x) = inl x
    prior l (inr x) = absurd (false_true x.0)

    go : Dec (Pos (over p q) (at t)) → Dec (Pos (under p q) (at t)) → Throughout (λ r. overlap p q (at r) ≡ false) (lately w t) t
    go (yes x) y = λ r pr k b. apart_over p q (at r) (prior_pos (over p q) t r w pt pr o s.0.0 s.0.1 b k (prior (over p q) x))
    go (no x) (yes y) = λ r pr k b. apart_under p q (at r) (prior_pos (under p q) t r w pt pr o s.1.0 s.1.1 b k (prior (under p q) y))
    go (no x) (no y) = absurd (false_true (sym e ∙ overlap_in p q (at t) x y))
