-- One end is behind another exactly if their difference is above zero; boxes overlap if neither difference is.
use Rattle.std.proofs.Common.{◌≡◌, ℕ, ◌+◌, ◌<◌, Bool, true, false, not, ◌&&◌, ◌⊎◌, ℤ, pos, ◌+ℤ◌, ◌-ℤ◌, ◌*ℤ◌, Decides, sym, refl, inl, inr, arith}
use native.Mathlib.Decide.{dec_lt}
use lib.Signed.{lt_z}
use borrow.Author.Differences.{ints, up, down, lt-true, true_is_lt}
use Rattle.std.proofs.lemmas.Bool.Decides.{Decides-not, Decides-and, Decides-or, Decides-like, same_from_decides}
use Rattle.rules.specs.Fractions.{Fraction}
use Rattle.rules.specs.Stamps.{Stamp}
use Rattle.rules.specs.Paths.{Line, value}
use Rattle.rules.specs.Boxes.{Ends, behind, overlap}
use Rattle.rules.proofs.Ring.{distr, neg_times}
use Rattle.geometry_laws.proofs.Lines.{Pos, lo, hi}

-- how far the first line is above the second
abbrev pub diff : Line → Line → Line
diff u v = record { base = u.base -ℤ v.base; slope = u.slope -ℤ v.slope }

value_gap : (a v b w : ℤ) (n d : ℕ) → ((a -ℤ b) *ℤ pos d) +ℤ ((v -ℤ w) *ℤ pos n) ≡ ((a *ℤ pos d) +ℤ (v *ℤ pos n)) -ℤ ((b *ℤ pos d) +ℤ (w *ℤ pos n))
value_gap a v b w n d = simp (distr, neg_times) (omega (arith, ints))

pub value_diff : (u v : Line) (t : Fraction) → value (diff u v) t ≡ value u t -ℤ value v t
value_diff u v t = value_gap u.base u.slope v.base v.slope t.num t.den

-- above zero as the natural numbers have it
pub value_lo : (l : Line) (t : Fraction) → up (value l t) + lo l t ≡ down (value l t) + hi l t
value_lo l t = omega (arith, ints)

lt_decides : (a b : ℤ) → Decides (lt_z a b) (up a + down b < up b + down a)
lt_decides a b = ((λ e. lt-true a b e), (λ h. sym (true_is_lt a b h)))

-- x and y two values, z their difference, which is h − l
turn : (x y z : ℤ) (h l : ℕ) → z ≡ x -ℤ y → up z + l ≡ down z + h → Decides (lt_z y x) (l < h)
turn x y z h l e f = Decides-like (lt_z y x) (λ p. omega (arith, ints, e, f, p)) (λ p. omega (arith, ints, e, f, p)) (lt_decides y x)

turn_back : (x y z : ℤ) (h l : ℕ) → z ≡ x -ℤ y → up z + l ≡ down z + h → Decides (lt_z x y) (h < l)
turn_back x y z h l e f = Decides-like (lt_z x y) (λ p. omega (arith, ints, e, f, p)) (λ p. omega (arith, ints, e, f, p)) (lt_decides x y)

steeper : (a b : ℤ) → Decides (lt_z b a) (down (a -ℤ b) < up (a -ℤ b))
steeper a b = Decides-like (lt_z b a) (λ p. omega (arith, ints, p)) (λ p. omega (arith, ints, p)) (lt_decides b a)

bit_decides : (b : Bool) → Decides b (b ≡ true)
bit_decides b = ((λ e. e), (λ e. e))

pub behind_decides : (u v : Line) (m : Stamp) → Decides (behind u v m) (Pos (diff u v) m)
behind_decides u v m =
    Decides-like (behind u v m) out back
    (Decides-or (lt_z y x) ((m.after && not (lt_z x y)) && lt_z v.slope u.slope) (turn x y z h l e f)
    (Decides-and (m.after && not (lt_z x y)) (lt_z v.slope u.slope)
    (Decides-and m.after (not (lt_z x y)) (bit_decides m.after) (Decides-not (lt_z x y) (turn_back x y z h l e f)))
    (steeper u.slope v.slope)))
  where
    x : ℤ
    x = value u m.time

    y : ℤ
    y = value v m.time

    z : ℤ
    z = value (diff u v) m.time

    h : ℕ
    h = hi (diff u v) m.time

    l : ℕ
    l = lo (diff u v) m.time

    e : z ≡ x -ℤ y
    e = value_diff u v m.time

    f : up z + l ≡ down z + h
    f = value_lo (diff u v) m.time

    out : (l < h) ⊎ (((m.after ≡ true) × (h < l → ⊥)) × (down (u.slope -ℤ v.slope) < up (u.slope -ℤ v.slope))) → Pos (diff u v) m
    out (inl p) = inl p
    out (inr p) = go p.0.1
      where
        go : (h < l → ⊥) → Pos (diff u v) m
        go n = pick (dec_lt l h)
          where
            pick : Dec (l < h) → Pos (diff u v) m
            pick (yes q) = inl q
            pick (no q) = inr (p.0.0, omega arith, p.1)

    back : Pos (diff u v) m → (l < h) ⊎ (((m.after ≡ true) × (h < l → ⊥)) × (down (u.slope -ℤ v.slope) < up (u.slope -ℤ v.slope)))
    back (inl p) = inl p
    back (inr p) = inr ((p.0, λ q. omega (arith, p.1, q)), p.2)

-- the two differences that decide an overlap: how far each lower end is above the other's upper end
abbrev pub over : Ends → Ends → Line
over p q = diff p.low q.high

abbrev pub under : Ends → Ends → Line
under p q = diff q.low p.high

pub overlap_decides : (p q : Ends) (m : Stamp) → Decides (overlap p q m) ((Pos (over p q) m → ⊥) × (Pos (under p q) m → ⊥))
overlap_decides p q m =
    Decides-and (not (behind p.low q.high m)) (not (behind q.low p.high m))
    (Decides-not (behind p.low q.high m) (behind_decides p.low q.high m))
    (Decides-not (behind q.low p.high m) (behind_decides q.low p.high m))

-- overlap as a fact, with what it comes to
pub overlap_in : (p q : Ends) (m : Stamp) → ¬ (Pos (over p q) m) → ¬ (Pos (under p q) m) → overlap p q m ≡ true
overlap_in p q m a b = (overlap_decides p q m).1 (a, b)

pub overlap_over : (p q : Ends) (m : Stamp) → overlap p q m ≡ true → Pos (over p q) m → ⊥
overlap_over p q m e x = ((overlap_decides p q m).0 e).0 x

pub overlap_under : (p q : Ends) (m : Stamp) → overlap p q m ≡ true → Pos (under p q) m → ⊥
overlap_under p q m e x = ((overlap_decides p q m).0 e).1 x

-- a test that fails is not so
pub not_so : (b : Bool) → ¬ (b ≡ true) → b ≡ false
not_so true n = absurd (n refl)
not_so false n = refl

pub apart_over : (p q : Ends) (m : Stamp) → Pos (over p q) m → overlap p q m ≡ false
apart_over p q m x = not_so (overlap p q m) (λ e. overlap_over p q m e x)

pub apart_under : (p q : Ends) (m : Stamp) → Pos (under p q) m → overlap p q m ≡ false
apart_under p q m x = not_so (overlap p q m) (λ e. overlap_under p q m e x)

-- where both differences stand alike, so does the overlap
pub overlap_like : (p q : Ends) (j k : Stamp) → (Pos (over p q) j → Pos (over p q) k) → (Pos (over p q) k → Pos (over p q) j) → (Pos (under p q) j → Pos (under p q) k) → (Pos (under p q) k → Pos (under p q) j) → overlap p q j ≡ overlap p q k
overlap_like p q j k a b c d =
    same_from_decides (overlap p q j) (overlap p q k) (overlap_decides p q j)
    (Decides-like (overlap p q k) (λ x. ((λ y. x.0 (a y)), (λ y. x.1 (c y)))) (λ x. ((λ y. x.0 (b y)), (λ y. x.1 (d y)))) (overlap_decides p q k))
