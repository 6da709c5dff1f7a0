-- Whether one end is behind another changes only where the two have one value: at that time, or just after it.
use Rattle.std.proofs.Common.{◌≡◌, ℕ, zero, suc, ◌+◌, ◌*◌, ◌<◌, ◌≤◌, Bool, true, false, cond, not, ◌&&◌, ◌⊎◌, List, ℤ, pos, negsuc, ◌-ℤ◌, ◌*ℤ◌, neg_ℤ, nat_abs, ◌≤ℤ◌, Some, None, sym, refl, ap, subst, inl, inr, mul-le-mul_right, le_of_mul-le-mul_right, arith}
use mathlib.Core.List.Memᴰ
use native.Mathlib.Decide.{dec_le, dec_lt}
use lib.Signed.{le_z}
use borrow.Author.Differences.{ints, up, down, true_is_le}
use Rattle.std.proofs.lemmas.Bool.{and_from, and_parts}
use Rattle.std.proofs.lemmas.Bool.Decides.{nat_tests}
use Rattle.rules.specs.Basics.{◌∈◌}
use Rattle.rules.specs.Fractions.{Fraction, Proper, NotAfter, Least, least, tick, no_time}
use Rattle.rules.specs.Stamps.{Stamp, NotEarlier, at, just_after}
use Rattle.rules.specs.Paths.{Line}
use Rattle.rules.specs.Boxes.{quotient, both_sides, crossing}
use Rattle.rules.proofs.Stamped.{asym}
use Rattle.rules.proofs.Made.{least_right}
use Rattle.geometry_laws.proofs.Lines.{Pos, lo, hi, pos_dec, up_stays, down_stays, rises_late, rises_not_before, falls_at, falls_not_before, rise_≤}
use Rattle.geometry_laws.proofs.Behind.{diff}
use Rattle.geometry_laws.proofs.Lists.{not_earlier_self}

-- where the difference is zero
abbrev pub test : ℤ → ℤ → Bool
test n s = le_z (pos 0) (n *ℤ s) && not (no_time (nat_abs n) (nat_abs s))

is_time : (n d : ℕ) → 0 < d → d ≤ 16000 → n ≤ 50000 * d → not (no_time n d) ≡ true
is_time n d a b c = grind (arith, nat_tests)

time_is : (n d : ℕ) → not (no_time n d) ≡ true → (0 < d) × (d ≤ 16000) × (n ≤ 50000 * d)
time_is n d e = (grind (arith, nat_tests), grind (arith, nat_tests), grind (arith, nat_tests))

pub quotient_some : (n s : ℤ) → 0 < nat_abs s → nat_abs s ≤ 16000 → pos 0 ≤ℤ (n *ℤ s) → nat_abs n ≤ 50000 * nat_abs s → quotient n s ≡ Some (least (nat_abs n) (nat_abs s))
quotient_some n s a w b c =
    let e : test n s ≡ true = and_from (le_z (pos 0) (n *ℤ s)) (not (no_time (nat_abs n) (nat_abs s)))
    (sym (true_is_le (pos 0) (n *ℤ s) (omega (arith, ints, b)))) (is_time (nat_abs n) (nat_abs s) a w c) in
    ap (λ (b : Bool). cond b (Some (least (nat_abs n) (nat_abs s))) None) e

-- what a quotient is, where there is one
pub record Root (n s : ℤ) (t : Fraction) : Type 0 where
  pub is : t ≡ least (nat_abs n) (nat_abs s)
  pub slope : 0 < nat_abs s
  pub small : nat_abs s ≤ 16000
  pub sign : pos 0 ≤ℤ (n *ℤ s)
  pub inside : nat_abs n ≤ 50000 * nat_abs s

pub quotient_out : (n s : ℤ) (t : Fraction) → quotient n s ≡ Some t → Root n s t
quotient_out n s t e = go (test n s) refl e
  where
    go : (b : Bool) → test n s ≡ b → cond b (Some (least (nat_abs n) (nat_abs s))) None ≡ Some t → Root n s t
    go false f g = absurd (let z : ◌≡◌ {A = ℕ} 0 1 = cc in omega arith)
    go true f g =
        let p = and_parts (le_z (pos 0) (n *ℤ s)) (not (no_time (nat_abs n) (nat_abs s))) f in
        let q = time_is (nat_abs n) (nat_abs s) p.1 in
        record { is = cc; slope = q.0; small = q.1; sign = omega (arith, ints, p.0); inside = q.2 }

-- over signs: n and s have one sign, and z is their quotient
pub root_zero : (n s : ℤ) (x d : ℕ) → x * nat_abs s ≡ nat_abs n * d → pos 0 ≤ℤ (n *ℤ s) → 0 < nat_abs s → n *ℤ pos d ≡ s *ℤ pos x
root_zero (pos n) (pos s) x d e h o = omega (arith, ints, e)
root_zero (pos zero) (negsuc s) x d e h o =
    let z : x * suc s ≡ 0 = omega (arith, e) in
    let y : x ≡ 0 = zero_of x z in rw y (omega (arith, ints))
  where
    zero_of : (x : ℕ) → x * suc s ≡ 0 → x ≡ 0
    zero_of zero e = refl
    zero_of (suc x) e = absurd (omega arith)
root_zero (pos (suc n)) (negsuc s) x d e h o = absurd (omega (arith, ints))
root_zero (negsuc n) (pos zero) x d e h o = absurd (omega arith)
root_zero (negsuc n) (pos (suc s)) x d e h o = absurd (omega (arith, ints))
root_zero (negsuc n) (negsuc s) x d e h o = omega (arith, ints, e)

-- the difference at such a quotient
pub root_at : (u v : Line) (z : Fraction) → (v.base -ℤ u.base) *ℤ pos z.den ≡ (u.slope -ℤ v.slope) *ℤ pos z.num → lo (diff u v) z ≡ hi (diff u v) z
root_at u v z e =
    let o : up (v.base -ℤ u.base) + up (u.base -ℤ v.base) ≡ down (v.base -ℤ u.base) + down (u.base -ℤ v.base) = omega (arith, ints) in
    omega (arith, ints, e, ap (λ (x : ℕ). x * z.den) o)

-- over signs: what crosses zero at a time from 0 to 50,000
pub record Crosses (n s : ℤ) : Type 0 where
  pub slope : 0 < nat_abs s
  pub sign : pos 0 ≤ℤ (n *ℤ s)
  pub inside : nat_abs n ≤ 50000 * nat_abs s

pub crosses_up : (n s b : ℤ) → n ≡ neg_ℤ b → up b ≤ down b → down s < up s → down b * 1 + down s * 50000 ≤ up b * 1 + up s * 50000 → Crosses n s
crosses_up (pos n) (pos s) b e h k l = record { slope = omega arith; sign = omega (arith, ints); inside = omega (arith, ints, e) }
crosses_up (negsuc n) (pos s) b e h k l = absurd (omega (arith, ints, e))
crosses_up n (negsuc s) b e h k l = absurd (omega arith)

pub crosses_down : (n s b : ℤ) → n ≡ neg_ℤ b → down b ≤ up b → up s < down s → up b * 1 + up s * 50000 ≤ down b * 1 + down s * 50000 → Crosses n s
crosses_down (negsuc n) (negsuc s) b e h k l = record { slope = omega arith; sign = omega (arith, ints); inside = omega (arith, ints, e) }
crosses_down (pos zero) (negsuc s) b e h k l = record { slope = omega arith; sign = omega (arith, ints); inside = omega arith }
crosses_down (pos (suc n)) (negsuc s) b e h k l = absurd (omega (arith, ints, e))
crosses_down n (pos s) b e h k l = absurd (omega arith)

-- a line that rises and is not above zero at m starts at most at zero; one that falls and is above zero at m starts above
pub starts_low : (l : Line) (m : Stamp) → Proper m.time → down l.slope < up l.slope → ¬ (Pos l m) → up l.base ≤ down l.base
starts_low l m p r a = le_of_mul-le-mul_right {k = m.time.den} (fin (dec_le (hi l m.time) (lo l m.time))) p
  where
    fin : Dec (hi l m.time ≤ lo l m.time) → up l.base * m.time.den ≤ down l.base * m.time.den
    fin (yes x) = omega (arith, x, mul-le-mul_right m.time.num (le (down l.slope) (up l.slope) r))
      where
        le : (x y : ℕ) → x < y → x ≤ y
        le x y h = omega arith
    fin (no x) = absurd (a (inl (omega arith)))

pub starts_high : (l : Line) (m : Stamp) → Proper m.time → up l.slope < down l.slope → Pos l m → down l.base ≤ up l.base
starts_high l m p r (inr x) = absurd (omega (arith, x.2))
starts_high l m p r (inl x) = le_of_mul-le-mul_right {k = m.time.den} (omega (arith, x, mul-le-mul_right m.time.num (le (up l.slope) (down l.slope) r))) p
  where
    le : (x y : ℕ) → x < y → x ≤ y
    le x y h = omega arith

-- and at 50,000
pub ends_high : (l : Line) (j : Stamp) → Proper j.time → NotAfter j.time (tick 50000) → down l.slope < up l.slope → Pos l j → down l.base * 1 + down l.slope * 50000 ≤ up l.base * 1 + up l.slope * 50000
ends_high l j p i r x = rise_≤ (up l.base) (down l.base) (up l.slope) (down l.slope) j.time.num j.time.den 50000 1 p (omega arith) (omega arith) i (not_below x)
  where
    not_below : Pos l j → lo l j.time ≤ hi l j.time
    not_below (inl y) = omega arith
    not_below (inr y) = omega (arith, y.1)

pub ends_low : (l : Line) (j : Stamp) → Proper j.time → NotAfter j.time (tick 50000) → up l.slope < down l.slope → ¬ (Pos l j) → up l.base * 1 + up l.slope * 50000 ≤ down l.base * 1 + down l.slope * 50000
ends_low l j p i r x = rise_≤ (down l.base) (up l.base) (down l.slope) (up l.slope) j.time.num j.time.den 50000 1 p (omega arith) (omega arith) i (fin (dec_le (hi l j.time) (lo l j.time)))
  where
    fin : Dec (hi l j.time ≤ lo l j.time) → hi l j.time ≤ lo l j.time
    fin (yes y) = y
    fin (no y) = absurd (x (inl (omega arith)))

pub other_way : (a b : ℤ) → b -ℤ a ≡ neg_ℤ (a -ℤ b)
other_way a b = omega (arith, ints)

-- from k to j, both in the stretch from m on, the difference stays as it is at j
pub record Settled (u v : Line) (m j : Stamp) : Type 0 where
  pub from : Stamp
  pub proper : Proper from.time
  pub one : (from ≡ m) ⊎ (from ∈ crossing u v)
  pub since : NotEarlier from m
  pub until : NotEarlier j from
  pub on : (i : Stamp) → Proper i.time → NotEarlier i from → NotEarlier j i → Pos (diff u v) i → Pos (diff u v) j
  pub off : (i : Stamp) → Proper i.time → NotEarlier i from → NotEarlier j i → Pos (diff u v) j → Pos (diff u v) i

module _ (u v : Line) (m j : Stamp) (pm : Proper m.time) (pj : Proper j.time) (h : NotEarlier j m) (i : NotAfter j.time (tick 50000)) (w : nat_abs (u.slope -ℤ v.slope) ≤ 16000) where
  -- from the start
  whole_way : ((k : Stamp) → Proper k.time → NotEarlier k m → NotEarlier j k → Pos (diff u v) k → Pos (diff u v) j) →
      ((k : Stamp) → Proper k.time → NotEarlier k m → NotEarlier j k → Pos (diff u v) j → Pos (diff u v) k) → Settled u v m j
  whole_way f g = record { from = m; proper = pm; one = inl refl; since = not_earlier_self m; until = h; on = f; off = g }

  module _ (o : 0 < nat_abs (u.slope -ℤ v.slope)) (b : pos 0 ≤ℤ ((v.base -ℤ u.base) *ℤ (u.slope -ℤ v.slope))) (c : nat_abs (v.base -ℤ u.base) ≤ 50000 * nat_abs (u.slope -ℤ v.slope)) where
    right : Least (nat_abs (v.base -ℤ u.base)) (nat_abs (u.slope -ℤ v.slope)) (least (nat_abs (v.base -ℤ u.base)) (nat_abs (u.slope -ℤ v.slope)))
    right = least_right (nat_abs (v.base -ℤ u.base)) (nat_abs (u.slope -ℤ v.slope)) o

    zero_there : lo (diff u v) (least (nat_abs (v.base -ℤ u.base)) (nat_abs (u.slope -ℤ v.slope))) ≡ hi (diff u v) (least (nat_abs (v.base -ℤ u.base)) (nat_abs (u.slope -ℤ v.slope)))
    zero_there =
        root_at u v (least (nat_abs (v.base -ℤ u.base)) (nat_abs (u.slope -ℤ v.slope)))
        (root_zero (v.base -ℤ u.base) (u.slope -ℤ v.slope) _ _ right.same b o)

    crossing_is : crossing u v ≡ both_sides (Some (least (nat_abs (v.base -ℤ u.base)) (nat_abs (u.slope -ℤ v.slope))))
    crossing_is = ap both_sides (quotient_some (v.base -ℤ u.base) (u.slope -ℤ v.slope) o w b c)

    at_in : at (least (nat_abs (v.base -ℤ u.base)) (nat_abs (u.slope -ℤ v.slope))) ∈ crossing u v
    at_in = subst (λ (xs : List Stamp). at (least (nat_abs (v.base -ℤ u.base)) (nat_abs (u.slope -ℤ v.slope))) ∈ xs) (sym crossing_is) (Memᴰ.head refl)

    after_in : just_after (least (nat_abs (v.base -ℤ u.base)) (nat_abs (u.slope -ℤ v.slope))) ∈ crossing u v
    after_in = subst (λ (xs : List Stamp). just_after (least (nat_abs (v.base -ℤ u.base)) (nat_abs (u.slope -ℤ v.slope))) ∈ xs) (sym crossing_is) (Memᴰ.tail (Memᴰ.head refl))

    -- it rises through zero between m and j
    rises : down (u.slope -ℤ v.slope) < up (u.slope -ℤ v.slope) → ¬ (Pos (diff u v) m) → Pos (diff u v) j → Settled u v m j
    rises r a p = go (least (nat_abs (v.base -ℤ u.base)) (nat_abs (u.slope -ℤ v.slope))) right.proper zero_there after_in
      where
        go : (z : Fraction) → Proper z → lo (diff u v) z ≡ hi (diff u v) z → just_after z ∈ crossing u v → Settled u v m j
        go z pz e k = record {
          from = just_after z;
          proper = pz;
          one = inr k;
          since = λ x. a (up_stays (diff u v) (just_after z) m pz pm (omega arith) (λ y. asym (just_after z) m x y) (rises_late (diff u v) z pz e r));
          until = λ x. rises_not_before (diff u v) z pz e r j pj x p;
          on = λ i pi x y q. p;
          off = λ i pi x y q. up_stays (diff u v) (just_after z) i pz pi (omega arith) x (rises_late (diff u v) z pz e r);
        }

    -- it falls to zero between m and j
    falls : up (u.slope -ℤ v.slope) < down (u.slope -ℤ v.slope) → Pos (diff u v) m → ¬ (Pos (diff u v) j) → Settled u v m j
    falls r a p = go (least (nat_abs (v.base -ℤ u.base)) (nat_abs (u.slope -ℤ v.slope))) right.proper zero_there at_in
      where
        go : (z : Fraction) → Proper z → lo (diff u v) z ≡ hi (diff u v) z → at z ∈ crossing u v → Settled u v m j
        go z pz e k = record {
          from = at z;
          proper = pz;
          one = inr k;
          since = λ x. falls_at (diff u v) z pz e r (down_stays (diff u v) (at z) m pz pm (omega arith) (λ y. asym (at z) m x y) a);
          until = λ x. p (falls_not_before (diff u v) z pz e r j pj x);
          on = λ i pi x y q. absurd (falls_at (diff u v) z pz e r (down_stays (diff u v) (at z) i pz pi (omega arith) x q));
          off = λ i pi x y q. absurd (p q);
        }

  pub settled : Settled u v m j
  settled = go (dec_lt (down (u.slope -ℤ v.slope)) (up (u.slope -ℤ v.slope))) (dec_lt (up (u.slope -ℤ v.slope)) (down (u.slope -ℤ v.slope))) (pos_dec (diff u v) m) (pos_dec (diff u v) j)
    where
      go : Dec (down (u.slope -ℤ v.slope) < up (u.slope -ℤ v.slope)) → Dec (up (u.slope -ℤ v.slope) < down (u.slope -ℤ v.slope)) → Dec (Pos (diff u v) m) → Dec (Pos (diff u v) j) → Settled u v m j
      go (yes r) x (yes a) y = whole_way (λ k pk f g q. up_stays (diff u v) k j pk pj (omega arith) g q) (λ k pk f g q. up_stays (diff u v) m k pm pk (omega arith) f a)
      go (yes r) x (no a) (no b) = whole_way (λ k pk f g q. up_stays (diff u v) k j pk pj (omega arith) g q) (λ k pk f g q. absurd (b q))
      go (yes r) x (no a) (yes b) =
          let c = crosses_up (v.base -ℤ u.base) (u.slope -ℤ v.slope) (u.base -ℤ v.base) (other_way u.base v.base) (starts_low (diff u v) m pm r a) r (ends_high (diff u v) j pj i r b) in
          rises c.slope c.sign c.inside r a b
      go (no r) (yes x) a (yes b) = whole_way (λ k pk f g q. b) (λ k pk f g q. down_stays (diff u v) k j pk pj (omega arith) g q)
      go (no r) (yes x) (no a) (no b) = whole_way (λ k pk f g q. absurd (a (down_stays (diff u v) m k pm pk (omega arith) f q))) (λ k pk f g q. absurd (b q))
      go (no r) (yes x) (yes a) (no b) =
          let c = crosses_down (v.base -ℤ u.base) (u.slope -ℤ v.slope) (u.base -ℤ v.base) (other_way u.base v.base) (starts_high (diff u v) m pm x a) x (ends_low (diff u v) j pj i x b) in
          falls c.slope c.sign c.inside x a b
      go (no r) (no x) a b = whole_way (λ k pk f g q. up_stays (diff u v) k j pk pj (omega arith) g q) (λ k pk f g q. down_stays (diff u v) k j pk pj (omega arith) g q)
