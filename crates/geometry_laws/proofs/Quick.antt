-- One quotient is enough for the first wrong moment of a bit.
use Rattle.std.proofs.Common.{◌≡◌, ℕ, ◌+◌, ◌*◌, ◌<◌, ◌≤◌, Bool, true, false, cond, not, ◌&&◌, List, [], ◌∷◌, ◌++◌, ℤ, pos, ◌+ℤ◌, ◌-ℤ◌, nat_abs, ◌<ℤ◌, Some, None, Option, sym, refl, ap, ◌∙◌, subst, inl, inr, mul-lt-mul_of_pos_right, arith}
use native.Mathlib.Decide.{dec_le}
use lib.Signed.{lt_z}
use borrow.Author.Differences.{ints, up, down}
use Rattle.std.proofs.lemmas.Bool.{and_from, and_parts, not-true}
use Rattle.rules.specs.Basics.{those}
use Rattle.rules.specs.Fractions.{Fraction, Proper, NotAfter, Coprime, Least, tick}
use Rattle.rules.specs.Stamps.{Stamp, at, just_after, is_earlier, earliest}
use Rattle.rules.specs.Paths.{Line}
use Rattle.rules.specs.Boxes.{Ends, behind, overlap, quotient, both_sides, crossing, wrong, fails, NeverWrong, Fails}
use Rattle.rules.proofs.Stamped.{asym, false_true}
use Rattle.rules.proofs.Made.{least_right, least_inside}
use Rattle.geometry_laws.specs.Certificates.{Slow, InLeast}
use Rattle.geometry_laws.specs.Quick.{sided, met, gaining, moving, Solid, QuickRight}
use Rattle.geometry_laws.proofs.Lines.{Pos, lo, hi, pos_dec, up_stays, down_stays, rises_late, rises_not_before, falls_at, falls_not_before}
use Rattle.geometry_laws.proofs.Behind.{diff, over, under, behind_decides, overlap_in, overlap_over, overlap_under, apart_over, apart_under, overlap_like}
use Rattle.geometry_laws.proofs.Lists.{not_earlier_self, not_earlier_is, not_is_earlier, is_earlier_so, those_out, earliest_first}
use Rattle.geometry_laws.proofs.Settled.{quotient_some, Root, quotient_out, root_zero, root_at, crosses_up, crosses_down, starts_low, starts_high, ends_high, ends_low, other_way}
use Rattle.geometry_laws.proofs.Certificates.{certificates_one}

-- ---- the time at which two ends have one value
pub record Met (u v : Line) (z : Fraction) : Type 0 where
  pub proper : Proper z
  pub zero : lo (diff u v) z ≡ hi (diff u v) z
  pub inside : NotAfter z (tick 50000)
  pub coprime : Coprime z.num z.den

met_is : (u v : Line) (z : Fraction) → quotient (v.base -ℤ u.base) (u.slope -ℤ v.slope) ≡ Some z → Met u v z
met_is u v z e = go (quotient_out (v.base -ℤ u.base) (u.slope -ℤ v.slope) z e)
  where
    go : Root (v.base -ℤ u.base) (u.slope -ℤ v.slope) z → Met u v z
    go r =
        let l : Least (nat_abs (v.base -ℤ u.base)) (nat_abs (u.slope -ℤ v.slope)) z = subst (λ (t : Fraction). Least (nat_abs (v.base -ℤ u.base)) (nat_abs (u.slope -ℤ v.slope)) t) (sym r.is) (least_right (nat_abs (v.base -ℤ u.base)) (nat_abs (u.slope -ℤ v.slope)) r.slope) in
        record {
          proper = l.proper;
          zero = root_at u v z (root_zero (v.base -ℤ u.base) (u.slope -ℤ v.slope) z.num z.den l.same r.sign r.slope);
          inside = omega (arith, least_inside (nat_abs (v.base -ℤ u.base)) (nat_abs (u.slope -ℤ v.slope)) 50000 z r.slope l r.inside);
          coprime = l.coprime;
        }

some_none : {A : Type 0} (o : Option A) (x : A) → o ≡ Some x → o ≡ None → ⊥
some_none o x e f = let z : ◌≡◌ {A = ℕ} 0 1 = cc in omega arith

-- ---- p moves up against q
module _ (p q : Ends) (m : Stamp) (pm : Proper m.time) (r : down (over p q).slope < up (over p q).slope) (f : up (under p q).slope < down (under p q).slope) (slow : Slow p q) where
  -- the bit says that they overlap, and they do
  leaves : overlap p q m ≡ true → (o : Option Fraction) → quotient (q.high.base -ℤ p.low.base) (p.low.slope -ℤ q.high.slope) ≡ o → Fails true p q m (sided true o)
  leaves c (Some z) e =
      let x = met_is p.low q.high z e in
      record {
        proper = x.proper;
        inside = x.inside;
        since = not_earlier_is (just_after z) m (λ y. overlap_over p q m c (up_stays (over p q) (just_after z) m x.proper pm (omega arith) (λ w. asym (just_after z) m y w) (rises_late (over p q) z x.proper x.zero r)));
        wrong_then = ap not (apart_over p q (just_after z) (rises_late (over p q) z x.proper x.zero r));
        right_before = λ j pj s h. ap not (overlap_in p q j
            (rises_not_before (over p q) z x.proper x.zero r j pj (is_earlier_so j (just_after z) h))
            (λ y. overlap_under p q m c (down_stays (under p q) m j pm pj (omega arith) (not_is_earlier j m s) y)));
      }
  leaves c None e = λ j pj ij s. ap not (overlap_in p q j
      (λ y. let x = crosses_up (q.high.base -ℤ p.low.base) (p.low.slope -ℤ q.high.slope) (p.low.base -ℤ q.high.base) (other_way p.low.base q.high.base) (starts_low (over p q) m pm r (λ y. overlap_over p q m c y)) r (ends_high (over p q) j pj ij r y) in
      some_none (quotient (q.high.base -ℤ p.low.base) (p.low.slope -ℤ q.high.slope)) _ (quotient_some (q.high.base -ℤ p.low.base) (p.low.slope -ℤ q.high.slope) x.slope slow.one x.sign x.inside) e)
      (λ y. overlap_under p q m c (down_stays (under p q) m j pm pj (omega arith) (not_is_earlier j m s) y)))

  -- it says that they are apart, and p is still below q
  enters : ((z : Fraction) → Proper z → lo (under p q) z ≡ hi (under p q) z → ¬ (Pos (over p q) (at z))) → Pos (under p q) m → (o : Option Fraction) → quotient (p.high.base -ℤ q.low.base) (q.low.slope -ℤ p.high.slope) ≡ o → Fails false p q m (sided false o)
  enters far c (Some z) e =
      let x = met_is q.low p.high z e in
      record {
        proper = x.proper;
        inside = x.inside;
        since = not_earlier_is (at z) m (λ y. falls_at (under p q) z x.proper x.zero f (down_stays (under p q) (at z) m x.proper pm (omega arith) (λ w. asym (at z) m y w) c));
        wrong_then = overlap_in p q (at z) (far z x.proper x.zero) (falls_at (under p q) z x.proper x.zero f);
        right_before = λ j pj s h. apart_under p q j (falls_not_before (under p q) z x.proper x.zero f j pj (is_earlier_so j (at z) h));
      }
  enters far c None e = λ j pj ij s. apart_under p q j (pick j pj ij (pos_dec (under p q) j))
    where
      pick : (j : Stamp) → Proper j.time → NotAfter j.time (tick 50000) → Dec (Pos (under p q) j) → Pos (under p q) j
      pick j pj ij (yes y) = y
      pick j pj ij (no y) =
          let x = crosses_down (p.high.base -ℤ q.low.base) (q.low.slope -ℤ p.high.slope) (q.low.base -ℤ p.high.base) (other_way q.low.base p.high.base) (starts_high (under p q) m pm f c) f (ends_low (under p q) j pj ij f y) in
          absurd (some_none (quotient (p.high.base -ℤ q.low.base) (q.low.slope -ℤ p.high.slope)) _ (quotient_some (p.high.base -ℤ q.low.base) (q.low.slope -ℤ p.high.slope) x.slope slow.two x.sign x.inside) e)

  -- it says that they are apart, and p is already above q
  gone : Pos (over p q) m → NeverWrong false p q m
  gone c j pj ij s = apart_over p q j (up_stays (over p q) m j pm pj (omega arith) (not_is_earlier j m s) c)

-- where one difference is zero the other is below, since boxes have sizes
below : (a b v w : ℤ) (n d : ℕ) → 0 < d → (a +ℤ b) <ℤ pos 0 → v +ℤ w ≡ pos 0 →
    down b * d + down w * n ≡ up b * d + up w * n → down a * d + down v * n < up a * d + up v * n → ⊥
below a b v w n d o s l e h =
    let x : up a + up b < down a + down b = omega (arith, ints, s) in
    let y : up v + up w ≡ down v + down w = omega (arith, ints, l) in
    omega (arith, e, h, mul-lt-mul_of_pos_right x o, ap (λ (k : ℕ). k * n) y)

not_both : (p q : Ends) → Solid p → Solid q → (z : Fraction) → Proper z → lo (under p q) z ≡ hi (under p q) z → ¬ (Pos (over p q) (at z))
not_both p q sp sq z pz e (inr x) = false_true x.0
not_both p q sp sq z pz e (inl x) =
    below (p.low.base -ℤ q.high.base) (q.low.base -ℤ p.high.base) (p.low.slope -ℤ q.high.slope) (q.low.slope -ℤ p.high.slope) z.num z.den pz
    (sizes p.low.base p.high.base q.low.base q.high.base sp.tall sq.tall)
    (slopes p.low.slope p.high.slope q.low.slope q.high.slope sp.level sq.level) e x
  where
    sizes : (a b c d : ℤ) → a <ℤ b → c <ℤ d → ((a -ℤ d) +ℤ (c -ℤ b)) <ℤ pos 0
    sizes a b c d h k = omega (arith, ints)

    slopes : (a b c d : ℤ) → a ≡ b → c ≡ d → (a -ℤ d) +ℤ (c -ℤ b) ≡ pos 0
    slopes a b c d h k = omega (arith, ints, h, k)

-- ---- the two boxes told the other way round
pub overlap_swap : (p q : Ends) (m : Stamp) → overlap q p m ≡ overlap p q m
overlap_swap p q m = flip (not (behind q.low p.high m)) (not (behind p.low q.high m))
  where
    flip : (x y : Bool) → (x && y) ≡ (y && x)
    flip true true = refl
    flip true false = refl
    flip false true = refl
    flip false false = refl

fails_swap : (bit : Bool) (p q : Ends) (m : Stamp) (o : Option Stamp) → Fails bit q p m o → Fails bit p q m o
fails_swap bit p q m None x = λ j pj ij s. sym (ap (wrong bit) (overlap_swap p q j)) ∙ x j pj ij s
fails_swap bit p q m (Some k) x = record {
  proper = x.proper;
  inside = x.inside;
  since = x.since;
  wrong_then = sym (ap (wrong bit) (overlap_swap p q k)) ∙ x.wrong_then;
  right_before = λ j pj s e. sym (ap (wrong bit) (overlap_swap p q j)) ∙ x.right_before j pj s e;
}

-- ---- a bit that is right at m
still : (bit x : Bool) → wrong bit x ≡ false → x ≡ bit
still true true e = refl
still true false e = absurd (false_true (sym e))
still false true e = absurd (false_true (sym e))
still false false e = refl

pub gaining_fails : (bit : Bool) (p q : Ends) (m : Stamp) → Proper m.time → Solid p → Solid q → Slow p q → q.low.slope <ℤ p.low.slope → wrong bit (overlap p q m) ≡ false → Fails bit p q m (gaining bit p q m)
gaining_fails bit p q m pm sp sq slow g e = go bit (still bit (overlap p q m) e)
  where
    steep : (a b c d : ℤ) → c <ℤ a → a ≡ b → c ≡ d → (down (a -ℤ d) < up (a -ℤ d)) × (up (c -ℤ b) < down (c -ℤ b))
    steep a b c d h k l = (omega (arith, ints, k, l), omega (arith, ints, k, l))

    up_down : (down (over p q).slope < up (over p q).slope) × (up (under p q).slope < down (under p q).slope)
    up_down = steep p.low.slope p.high.slope q.low.slope q.high.slope g sp.level sq.level

    apart : overlap p q m ≡ false → (b : Bool) → behind q.low p.high m ≡ b → Fails false p q m (cond b (met q.low p.high false) None)
    apart c true h = enters p q m pm up_down.0 up_down.1 slow (not_both p q sp sq) ((behind_decides q.low p.high m).0 h) _ refl
    apart c false h = gone p q m pm up_down.0 up_down.1 slow (pick (pos_dec (over p q) m))
      where
        pick : Dec (Pos (over p q) m) → Pos (over p q) m
        pick (yes x) = x
        pick (no x) = absurd (false_true (sym c ∙ overlap_in p q m x (λ y. false_true (sym h ∙ (behind_decides q.low p.high m).1 y))))

    go : (bit : Bool) → overlap p q m ≡ bit → Fails bit p q m (gaining bit p q m)
    go true c = leaves p q m pm up_down.0 up_down.1 slow c _ refl
    go false c = apart c (behind q.low p.high m) refl

-- two boxes that keep their distance keep their bit
level_never : (bit : Bool) (p q : Ends) (m : Stamp) → Proper m.time → Solid p → Solid q → p.low.slope ≡ q.low.slope → wrong bit (overlap p q m) ≡ false → NeverWrong bit p q m
level_never bit p q m pm sp sq g e j pj ij s = ap (wrong bit) (overlap_like p q j m (back (over p q) flat_over) (forth (over p q) flat_over) (back (under p q) flat_under) (forth (under p q) flat_under)) ∙ e
  where
    flat : (a b c d : ℤ) → a ≡ c → a ≡ b → c ≡ d → ((up (a -ℤ d) ≤ down (a -ℤ d)) × (down (a -ℤ d) ≤ up (a -ℤ d))) × ((up (c -ℤ b) ≤ down (c -ℤ b)) × (down (c -ℤ b) ≤ up (c -ℤ b)))
    flat a b c d h k l = ((omega (arith, ints, h, k, l), omega (arith, ints, h, k, l)), (omega (arith, ints, h, k, l), omega (arith, ints, h, k, l)))

    flats : ((up (over p q).slope ≤ down (over p q).slope) × (down (over p q).slope ≤ up (over p q).slope)) × ((up (under p q).slope ≤ down (under p q).slope) × (down (under p q).slope ≤ up (under p q).slope))
    flats = flat p.low.slope p.high.slope q.low.slope q.high.slope g sp.level sq.level

    flat_over : (up (over p q).slope ≤ down (over p q).slope) × (down (over p q).slope ≤ up (over p q).slope)
    flat_over = flats.0

    flat_under : (up (under p q).slope ≤ down (under p q).slope) × (down (under p q).slope ≤ up (under p q).slope)
    flat_under = flats.1

    back : (l : Line) → (up l.slope ≤ down l.slope) × (down l.slope ≤ up l.slope) → Pos l j → Pos l m
    back l h x = down_stays l m j pm pj h.0 (not_is_earlier j m s) x

    forth : (l : Line) → (up l.slope ≤ down l.slope) × (down l.slope ≤ up l.slope) → Pos l m → Pos l j
    forth l h x = up_stays l m j pm pj h.1 (not_is_earlier j m s) x

slow_swap : (p q : Ends) → Slow p q → Slow q p
slow_swap p q s = record { one = s.two; two = s.one }

pub moving_fails : (bit : Bool) (p q : Ends) (m : Stamp) → Proper m.time → Solid p → Solid q → Slow p q → wrong bit (overlap p q m) ≡ false → Fails bit p q m (moving bit p q m)
moving_fails bit p q m pm sp sq slow e = go (lt_z q.low.slope p.low.slope) refl (lt_z p.low.slope q.low.slope) refl
  where
    less : (a b : ℤ) → lt_z a b ≡ true → a <ℤ b
    less a b h = omega (arith, ints, h)

    even : (a b : ℤ) → lt_z a b ≡ false → lt_z b a ≡ false → b ≡ a
    even a b h k = omega (arith, ints, h, k)

    go : (x : Bool) → lt_z q.low.slope p.low.slope ≡ x → (y : Bool) → lt_z p.low.slope q.low.slope ≡ y → Fails bit p q m (cond x (gaining bit p q m) (cond y (gaining bit q p m) None))
    go true h y k = gaining_fails bit p q m pm sp sq slow (less q.low.slope p.low.slope h) e
    go false h true k = fails_swap bit p q m (gaining bit q p m) (gaining_fails bit q p m pm sq sp (slow_swap p q slow) (less p.low.slope q.low.slope k) (ap (wrong bit) (overlap_swap p q m) ∙ e))
    go false h false k = level_never bit p q m pm sp sq (even q.low.slope p.low.slope h k) e

-- ---- in least terms
met_least : (u v : Line) (s : Bool) → InLeast (met u v s)
met_least u v s = go (quotient (v.base -ℤ u.base) (u.slope -ℤ v.slope)) refl
  where
    go : (o : Option Fraction) → quotient (v.base -ℤ u.base) (u.slope -ℤ v.slope) ≡ o → InLeast (sided s o)
    go None e = tt
    go (Some z) e = (met_is u v z e).coprime

gaining_least : (bit : Bool) (p q : Ends) (m : Stamp) → InLeast (gaining bit p q m)
gaining_least true p q m = met_least p.low q.high true
gaining_least false p q m = go (behind q.low p.high m)
  where
    go : (b : Bool) → InLeast (cond b (met q.low p.high false) None)
    go true = met_least q.low p.high false
    go false = tt

moving_least : (bit : Bool) (p q : Ends) (m : Stamp) → InLeast (moving bit p q m)
moving_least bit p q m = go (lt_z q.low.slope p.low.slope) (lt_z p.low.slope q.low.slope)
  where
    go : (x y : Bool) → InLeast (cond x (gaining bit p q m) (cond y (gaining bit q p m) None))
    go true y = gaining_least bit p q m
    go false true = gaining_least bit q p m
    go false false = tt

-- ---- lines whose slopes differ by more than 16,000 have no crossing that is a time
steep_none : (n s : ℤ) → 16000 < nat_abs s → quotient n s ≡ None
steep_none n s h = go (quotient n s) refl
  where
    go : (o : Option Fraction) → quotient n s ≡ o → o ≡ None
    go None e = refl
    go (Some z) e = absurd (omega (arith, (quotient_out n s z e).small))

met_none : (u v : Line) (s : Bool) → 16000 < nat_abs (u.slope -ℤ v.slope) → met u v s ≡ None
met_none u v s h = ap (sided s) (steep_none (v.base -ℤ u.base) (u.slope -ℤ v.slope) h)

pub steep_moving : (bit : Bool) (p q : Ends) (m : Stamp) → 16000 < nat_abs (p.low.slope -ℤ q.high.slope) → 16000 < nat_abs (q.low.slope -ℤ p.high.slope) → moving bit p q m ≡ None
steep_moving bit p q m a b = go (lt_z q.low.slope p.low.slope) (lt_z p.low.slope q.low.slope)
  where
    other : (bit : Bool) (p q : Ends) → 16000 < nat_abs (p.low.slope -ℤ q.high.slope) → 16000 < nat_abs (q.low.slope -ℤ p.high.slope) → gaining bit p q m ≡ None
    other true p q a b = met_none p.low q.high true a
    other false p q a b = pick (behind q.low p.high m)
      where
        pick : (c : Bool) → cond c (met q.low p.high false) None ≡ None
        pick true = met_none q.low p.high false b
        pick false = refl

    go : (x y : Bool) → cond x (gaining bit p q m) (cond y (gaining bit q p m) None) ≡ None
    go true y = other bit p q a b
    go false true = other bit q p b a
    go false false = refl

steep_fails : (bit : Bool) (p q : Ends) (m : Stamp) → 16000 < nat_abs (p.low.slope -ℤ q.high.slope) → 16000 < nat_abs (q.low.slope -ℤ p.high.slope) → wrong bit (overlap p q m) ≡ false → fails bit p q m ≡ None
steep_fails bit p q m a b e =
    let x : crossing p.low q.high ≡ [] = ap both_sides (steep_none (q.high.base -ℤ p.low.base) (p.low.slope -ℤ q.high.slope) a) in
    let y : crossing q.low p.high ≡ [] = ap both_sides (steep_none (p.high.base -ℤ q.low.base) (q.low.slope -ℤ p.high.slope) b) in
    ap (λ (xs : List Stamp). earliest (those (λ k. not (is_earlier k m) && wrong bit (overlap p q k)) (m ∷ xs))) (ap (λ (xs : List Stamp). xs ++ crossing q.low p.high) x ∙ y)
    ∙ ap (λ (c : Bool). earliest (cond c (m ∷ []) [])) (none (not (is_earlier m m)) (wrong bit (overlap p q m)) e)
  where
    none : (x y : Bool) → y ≡ false → (x && y) ≡ false
    none true y e = e
    none false y e = refl

-- ---- a bit that is wrong at m
pub wrong_now : (bit : Bool) (p q : Ends) (m : Stamp) → wrong bit (overlap p q m) ≡ true → fails bit p q m ≡ Some m
wrong_now bit p q m e =
    ap (λ (c : Bool). earliest (cond c (m ∷ rest) rest)) (and_from (not (is_earlier m m)) (wrong bit (overlap p q m)) (ap not (not_earlier_is m m (not_earlier_self m))) e)
    ∙ earliest_first m rest (λ x h. not-true (is_earlier x m) (and_parts (not (is_earlier x m)) (wrong bit (overlap p q x)) (those_out (λ k. not (is_earlier k m) && wrong bit (overlap p q k)) (crossing p.low q.high ++ crossing q.low p.high) x h).1).0)
  where
    rest : List Stamp
    rest = those (λ k. not (is_earlier k m) && wrong bit (overlap p q k)) (crossing p.low q.high ++ crossing q.low p.high)

pub quick_right : QuickRight
quick_right bit p q m u sp sq = go (wrong bit (overlap p q m)) refl
  where
    im : NotAfter m.time (tick 50000)
    im = omega (arith, u.inside)

    slopes : (a b c d : ℤ) → a ≡ b → c ≡ d → nat_abs (a -ℤ d) ≡ nat_abs (c -ℤ b)
    slopes a b c d h k = omega (arith, ints, h, k)

    same : nat_abs (p.low.slope -ℤ q.high.slope) ≡ nat_abs (q.low.slope -ℤ p.high.slope)
    same = slopes p.low.slope p.high.slope q.low.slope q.high.slope sp.level sq.level

    right : wrong bit (overlap p q m) ≡ false → Dec (nat_abs (p.low.slope -ℤ q.high.slope) ≤ 16000) → moving bit p q m ≡ fails bit p q m
    right e (yes h) =
        let s : Slow p q = record { one = h; two = omega (arith, same) } in
        certificates_one bit p q m (moving bit p q m) u.proper im s u.coprime (moving_fails bit p q m u.proper sp sq s e) (moving_least bit p q m)
    right e (no h) = steep_moving bit p q m (omega arith) (omega (arith, same)) ∙ sym (steep_fails bit p q m (omega arith) (omega (arith, same)) e)

    go : (b : Bool) → wrong bit (overlap p q m) ≡ b → cond b (Some m) (moving bit p q m) ≡ fails bit p q m
    go true e = sym (wrong_now bit p q m e)
    go false e = right e (dec_le (nat_abs (p.low.slope -ℤ q.high.slope)) 16000)
