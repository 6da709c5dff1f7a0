-- Lines over fractions: where a line is above zero, and how that stays or changes.
use Rattle.std.proofs.Common.{◌≡◌, ℕ, ◌+◌, ◌*◌, ◌<◌, ◌≤◌, Bool, true, false, ◌⊎◌, sym, refl, ap, ◌∙◌, inl, inr, ⊎_elim, mul-le-mul_right, lt_of_mul-lt-mul_right, le_of_mul-le-mul_right, arith}
use native.Mathlib.Decide.{dec_le, dec_lt}
use native.Mathlib.Nat.{eq_of_mul-eq-mul_right}
use borrow.Author.Differences.{ints, up, down}
use Rattle.rules.specs.Fractions.{Fraction, Proper, Before, NotAfter, SameTime}
use Rattle.rules.specs.Stamps.{Stamp, Earlier, NotEarlier, side}
use Rattle.rules.specs.Paths.{Line, value}
use Rattle.rules.proofs.Order.{rearrange, rearrange_lt}
use Rattle.rules.proofs.Stamped.{not_earlier_out, false_true}

-- The line (a − b) + (p − q) t, over naturals, at n / d and at n' / d', the later one.
module _ (a b p q n d n' d' : ℕ) (o : 0 < d) (o' : 0 < d') where
  pub rise_< : q ≤ p → n * d' ≤ n' * d → b * d + q * n < a * d + p * n → b * d' + q * n' < a * d' + p * n'
  rise_< s h k = lt_of_mul-lt-mul_right d (omega (arith, mul-le-mul_right d' k, rearrange p q (n * d') (n' * d) s h))

  pub rise_≤ : q ≤ p → n * d' ≤ n' * d → b * d + q * n ≤ a * d + p * n → b * d' + q * n' ≤ a * d' + p * n'
  rise_≤ s h k = le_of_mul-le-mul_right {k = d} (omega (arith, mul-le-mul_right d' k, rearrange p q (n * d') (n' * d) s h)) o

  pub rise_over : q < p → n * d' < n' * d → b * d + q * n ≤ a * d + p * n → b * d' + q * n' < a * d' + p * n'
  rise_over s h k = lt_of_mul-lt-mul_right d (omega (arith, mul-le-mul_right d' k, rearrange_lt p q (n * d') (n' * d) s h))

  -- what is not yet above zero at the later time was below zero before
  pub rise_from : q < p → n * d' < n' * d → a * d' + p * n' ≤ b * d' + q * n' → a * d + p * n < b * d + q * n
  rise_from s h k = lt_of_mul-lt-mul_right d' (omega (arith, mul-le-mul_right d k, rearrange_lt p q (n * d') (n' * d) s h))

-- the line is above zero at m: at side 1 one that is zero and rises counts
abbrev pub hi : Line → Fraction → ℕ
hi l t = up l.base * t.den + up l.slope * t.num

abbrev pub lo : Line → Fraction → ℕ
lo l t = down l.base * t.den + down l.slope * t.num

abbrev pub Pos : Line → Stamp → Type 0
Pos l m = (lo l m.time < hi l m.time) ⊎ ((m.after ≡ true) × (lo l m.time ≡ hi l m.time) × (down l.slope < up l.slope))

pub value_is : (l : Line) (t : Fraction) → up (value l t) + lo l t ≡ down (value l t) + hi l t
value_is l t = omega (arith, ints)

-- ---- at equal times a line has equal signs
pub same_time_< : (l : Line) (s t : Fraction) → Proper s → Proper t → SameTime s t → lo l s < hi l s → lo l t < hi l t
same_time_< l s t ps pt e k =
    lt_of_mul-lt-mul_right s.den
    (omega (arith, mul-le-mul_right t.den k, ap (λ (x : ℕ). up l.slope * x) e, ap (λ (x : ℕ). down l.slope * x) e))

pub same_time_≤ : (l : Line) (s t : Fraction) → Proper s → Proper t → SameTime s t → lo l s ≤ hi l s → lo l t ≤ hi l t
same_time_≤ l s t ps pt e k =
    le_of_mul-le-mul_right {k = s.den}
    (omega (arith, mul-le-mul_right t.den k, ap (λ (x : ℕ). up l.slope * x) e, ap (λ (x : ℕ). down l.slope * x) e)) ps

pub same_time_≡ : (l : Line) (s t : Fraction) → Proper s → Proper t → SameTime s t → lo l s ≡ hi l s → lo l t ≡ hi l t
same_time_≡ l s t ps pt e k =
    eq_of_mul-eq-mul_right s.den ps (lo l t) (hi l t)
    (omega (arith, ap (λ (x : ℕ). x * t.den) k, ap (λ (x : ℕ). up l.slope * x) e, ap (λ (x : ℕ). down l.slope * x) e))

late_last : (x y : Bool) → side x ≤ side y → x ≡ true → y ≡ true
late_last x true h e = refl
late_last true false h e = absurd (omega arith)
late_last false false h e = e

-- ---- lines, at a time and a later one
module _ (l : Line) (s t : Fraction) (ps : Proper s) (pt : Proper t) where
  pub up_< : down l.slope ≤ up l.slope → NotAfter s t → lo l s < hi l s → lo l t < hi l t
  up_< = rise_< (up l.base) (down l.base) (up l.slope) (down l.slope) s.num s.den t.num t.den ps pt

  pub up_over : down l.slope < up l.slope → Before s t → lo l s ≤ hi l s → lo l t < hi l t
  up_over = rise_over (up l.base) (down l.base) (up l.slope) (down l.slope) s.num s.den t.num t.den ps pt

  pub down_≤ : up l.slope ≤ down l.slope → NotAfter s t → hi l s ≤ lo l s → hi l t ≤ lo l t
  down_≤ = rise_≤ (down l.base) (up l.base) (down l.slope) (up l.slope) s.num s.den t.num t.den ps pt

  pub down_from : up l.slope < down l.slope → Before s t → lo l t ≤ hi l t → lo l s < hi l s
  down_from = rise_from (down l.base) (up l.base) (down l.slope) (up l.slope) s.num s.den t.num t.den ps pt

-- ---- a rising line stays above zero, a falling one stays not above
module _ (l : Line) (j k : Stamp) (pj : Proper j.time) (pk : Proper k.time) where
  pub up_stays : down l.slope ≤ up l.slope → NotEarlier k j → Pos l j → Pos l k
  up_stays s h x = go (not_earlier_out j k h) x
    where
      go : (Before j.time k.time) ⊎ (SameTime j.time k.time × (side j.after ≤ side k.after)) → Pos l j → Pos l k
      go (inl b) (inl x) = inl (up_< l j.time k.time pj pk s (omega arith) x)
      go (inl b) (inr x) = inl (up_over l j.time k.time pj pk x.2 b (omega arith))
      go (inr b) (inl x) = inl (up_< l j.time k.time pj pk s (omega arith) x)
      go (inr b) (inr x) = inr (late_last j.after k.after b.1 x.0, same_time_≡ l j.time k.time pj pk b.0 x.1, x.2)

  -- of a line that does not rise, to be above zero is that lo is below hi
  pub down_stays : up l.slope ≤ down l.slope → NotEarlier k j → Pos l k → Pos l j
  down_stays s h (inr x) = absurd (omega arith)
  down_stays s h (inl x) = go (not_earlier_out j k h) (dec_lt (lo l j.time) (hi l j.time))
    where
      go : (Before j.time k.time) ⊎ (SameTime j.time k.time × (side j.after ≤ side k.after)) → Dec (lo l j.time < hi l j.time) → Pos l j
      go b (yes y) = inl y
      go (inl b) (no f) = absurd (omega (arith, down_≤ l j.time k.time pj pk s (omega arith) (omega arith)))
      go (inr b) (no f) = absurd (omega (arith, down_≤ l j.time k.time pj pk s (omega arith) (omega arith)))

-- ---- where a line is zero
module _ (l : Line) (z : Fraction) (pz : Proper z) (at-z : lo l z ≡ hi l z) where
  -- a rising one is first above zero just after
  pub rises_late : down l.slope < up l.slope → Pos l (record { time = z; after = true })
  rises_late s = inr (refl, at-z, s)

  pub rises_not_before : down l.slope < up l.slope → (k : Stamp) → Proper k.time → Earlier k (record { time = z; after = true }) → Pos l k → ⊥
  rises_not_before s k pk (inl b) (inl x) = omega (arith, up_over l k.time z pk pz s b (omega arith))
  rises_not_before s k pk (inl b) (inr x) = omega (arith, up_over l k.time z pk pz s b (omega arith))
  rises_not_before s k pk (inr b) (inl x) = omega (arith, same_time_< l k.time z pk pz b.0 x)
  rises_not_before s k pk (inr b) (inr x) = late_clash k.after x.0 b.1
    where
      late_clash : (y : Bool) → y ≡ true → side y < 1 → ⊥
      late_clash true e h = omega arith
      late_clash false e h = false_true e

  -- a falling one is first not above zero at the instant
  pub falls_at : up l.slope < down l.slope → Pos l (record { time = z; after = false }) → ⊥
  falls_at s (inl x) = omega arith
  falls_at s (inr x) = omega arith

  pub falls_not_before : up l.slope < down l.slope → (k : Stamp) → Proper k.time → Earlier k (record { time = z; after = false }) → Pos l k
  falls_not_before s k pk (inl b) = inl (down_from l k.time z pk pz s b (omega arith))
  falls_not_before s k pk (inr b) = absurd (omega arith)

unfoldable pub pos_dec : (l : Line) (m : Stamp) → Dec (Pos l m)
pos_dec l m = go m.after refl (dec_lt (lo l m.time) (hi l m.time)) (dec_le (lo l m.time) (hi l m.time)) (dec_lt (down l.slope) (up l.slope))
  where
    go : (b : Bool) → m.after ≡ b → Dec (lo l m.time < hi l m.time) → Dec (lo l m.time ≤ hi l m.time) → Dec (down l.slope < up l.slope) → Dec (Pos l m)
    go b e (yes x) y z = yes (inl x)
    go true e (no x) (yes y) (yes z) = yes (inr (e, omega arith, z))
    go true e (no x) (yes y) (no z) = no λ p. ⊎_elim x (λ q. z q.2) p
    go true e (no x) (no y) z = no λ p. ⊎_elim x (λ q. y (omega (arith, q.1))) p
    go false e (no x) y z = no λ p. ⊎_elim x (λ q. false_true (sym e ∙ q.0)) p

-- what is above zero at a time is so just after it
pub pos_weak : (l : Line) (t : Fraction) → Pos l (record { time = t; after = false }) → Pos l (record { time = t; after = true })
pos_weak l t (inl x) = inl x
pos_weak l t (inr x) = absurd (false_true x.0)
