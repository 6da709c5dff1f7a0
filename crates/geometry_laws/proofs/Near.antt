-- Two boxes on their paths: overlap on the legs, over moments.
use Rattle.std.proofs.Common.{◌≡◌, ℕ, ◌*◌, ◌<◌, ◌≤◌, Bool, true, false, not, ◌&&◌, ◌||◌, ◌⊎◌, ℤ, pos, ◌+ℤ◌, ◌*ℤ◌, neg_ℤ, ◌≤ℤ◌, sym, refl, ap, ◌∙◌, ap₂, inl, inr, arith}
use lib.Signed.{lt_z}
use borrow.Author.Differences.{ints, false_is_lt}
use Rattle.std.proofs.lemmas.Bool.{and_from, and_parts, not-true, or_parts, or_from}
use Rattle.rules.specs.Fractions.{Fraction, Proper, SameTime}
use Rattle.rules.specs.Stamps.{Stamp, at, just_after}
use Rattle.rules.specs.Paths.{Axis, Line, Path, X, Y, Z, line_at, leg, value}
use Rattle.rules.specs.Boxes.{Box, down_reach, up_reach, ends, behind, overlap, Under}
use Rattle.rules.proofs.Ring.{distr}
use Rattle.rules.proofs.Stamped.{false_true}
use Rattle.geometry_laws.specs.Turns.{near, Near, TouchesTold}
use Rattle.geometry_laws.proofs.Moments.{overlap_same}
use Rattle.geometry_laws.proofs.Flips.{overlap_late}
use Rattle.geometry_laws.proofs.Paths.{Straight, same_leg, place_straight, whole_same}

pub bool_dec : (b : Bool) → Dec (b ≡ true)
bool_dec true = yes refl
bool_dec false = no λ e. false_true e

pub near_dec : (p : Path) (b : Box) (q : Path) (d : Box) (a : Axis) (k : Stamp) → Dec (Near p b q d a k)
near_dec p b q d a k = bool_dec (near p b q d a k)

-- one of three fails, or none
pub one_of : (P : Axis → Type 0) → ((a : Axis) → Dec (P a)) → ((a : Axis) → P a) ⊎ ((a : Axis) × (¬ (P a)))
one_of P d = go (d X) (d Y) (d Z)
  where
    all : P X → P Y → P Z → (a : Axis) → P a
    all x y z X = x
    all x y z Y = y
    all x y z Z = z

    go : Dec (P X) → Dec (P Y) → Dec (P Z) → ((a : Axis) → P a) ⊎ ((a : Axis) × (¬ (P a)))
    go (yes x) (yes y) (yes z) = inl (all x y z)
    go (no x) y z = inr (X, x)
    go (yes x) (no y) z = inr (Y, y)
    go (yes x) (yes y) (no z) = inr (Z, z)

-- ---- at side 0 only the values count
low_high : (u v : Line) (t : Fraction) → behind u v (at t) ≡ false → value u t ≤ℤ value v t
low_high u v t e = omega (arith, ints, (or_parts (lt_z (value v t) (value u t)) false (e)).0)

high_low : (u v : Line) (t : Fraction) → value u t ≤ℤ value v t → behind u v (at t) ≡ false
high_low u v t h = or_from (lt_z (value v t) (value u t)) false (sym (false_is_lt (value v t) (value u t) (omega (arith, ints, h)))) refl

pub touches_told : TouchesTold
touches_told p b q d t = ((λ h a. there a (h a)), (λ h a. back a (h a)))
  where
    there : (a : Axis) → Under p b q d t a × Under q d p b t a → Near p b q d a (at t)
    there a h = and_from (not (behind (ends b a (leg p t a)).low (ends d a (leg q t a)).high (at t))) (not (behind (ends d a (leg q t a)).low (ends b a (leg p t a)).high (at t)))
        (ap not (high_low (ends b a (leg p t a)).low (ends d a (leg q t a)).high t h.0)) (ap not (high_low (ends d a (leg q t a)).low (ends b a (leg p t a)).high t h.1))

    back : (a : Axis) → Near p b q d a (at t) → Under p b q d t a × Under q d p b t a
    back a e =
        let r = and_parts (not (behind (ends b a (leg p t a)).low (ends d a (leg q t a)).high (at t))) (not (behind (ends d a (leg q t a)).low (ends b a (leg p t a)).high (at t))) e in (
          low_high (ends b a (leg p t a)).low (ends d a (leg q t a)).high t (not-true (behind (ends b a (leg p t a)).low (ends d a (leg q t a)).high (at t)) r.0),
          low_high (ends d a (leg q t a)).low (ends b a (leg p t a)).high t (not-true (behind (ends d a (leg q t a)).low (ends b a (leg p t a)).high (at t)) r.1),
        )

-- ---- a moment named twice
pub near_same : (p : Path) (b : Box) (q : Path) (d : Box) (a : Axis) (j k : Stamp) → Proper j.time → Proper k.time → SameTime j.time k.time → j.after ≡ k.after → near p b q d a j ≡ near p b q d a k
near_same p b q d a j k pj pk e f =
    overlap_same (ends b a (leg p j.time a)) (ends d a (leg q j.time a)) j k pj pk e f
    ∙ ap (λ (i : ℕ). overlap (ends b a (line_at p a i)) (ends d a (line_at q a i)) k) (whole_same j.time k.time pj pk e)

-- just after a time overlap asks for more than at it
pub near_late : (p : Path) (b : Box) (q : Path) (d : Box) (a : Axis) (t : Fraction) → Near p b q d a (just_after t) → Near p b q d a (at t)
near_late p b q d a t e = overlap_late (ends b a (leg p t a)) (ends d a (leg q t a)) t e

-- ---- lines that are alike at a moment: one value there, and at side 1 one slope
pub record Alike (l k : Line) (m : Stamp) : Type 0 where
  pub values : value l m.time ≡ value k m.time
  pub slopes : m.after ≡ true → l.slope ≡ k.slope

pub alike_self : (l k : Line) (m : Stamp) → l ≡ k → Alike l k m
alike_self l k m e = record { values = ap (λ (l : Line). value l m.time) e; slopes = λ _. ap (λ (l : Line). l.slope) e }

pub alike_sym : (l k : Line) (m : Stamp) → Alike l k m → Alike k l m
alike_sym l k m a = record { values = sym a.values; slopes = λ e. sym (a.slopes e) }

shifted : (a v c : ℤ) (n d : ℕ) → ((a +ℤ c) *ℤ pos d) +ℤ (v *ℤ pos n) ≡ ((a *ℤ pos d) +ℤ (v *ℤ pos n)) +ℤ (c *ℤ pos d)
shifted a v c n d = simp distr (omega (arith, ints))

pub behind_alike : (u v u' v' : Line) (m : Stamp) → Alike u u' m → Alike v v' m → behind u v m ≡ behind u' v' m
behind_alike u v u' v' m a b = go m.after refl
  where
    go : (s : Bool) → m.after ≡ s →
        (lt_z (value v m.time) (value u m.time) || (s && not (lt_z (value u m.time) (value v m.time)) && lt_z v.slope u.slope))
        ≡ (lt_z (value v' m.time) (value u' m.time) || (s && not (lt_z (value u' m.time) (value v' m.time)) && lt_z v'.slope u'.slope))
    go true e = let f = a.slopes e in let g = b.slopes e in let h = a.values in let i = b.values in cc
    go false e = ap₂ (λ (x y : ℤ). lt_z y x || false) a.values b.values

shift_alike : (l k : Line) (c : ℤ) (m : Stamp) → Alike l k m → Alike (record { base = l.base +ℤ c; slope = l.slope }) (record { base = k.base +ℤ c; slope = k.slope }) m
shift_alike l k c m h = record {
  values = shifted l.base l.slope c m.time.num m.time.den ∙ ap (λ (x : ℤ). x +ℤ (c *ℤ pos m.time.den)) h.values ∙ sym (shifted k.base k.slope c m.time.num m.time.den);
  slopes = h.slopes;
}

-- boxes on lines that are alike have ends that are
ends_alike : (b : Box) (a : Axis) (l k : Line) (m : Stamp) → Alike l k m → Alike (ends b a l).low (ends b a k).low m × Alike (ends b a l).high (ends b a k).high m
ends_alike b a l k m h = (shift_alike l k (neg_ℤ (pos (down_reach b a))) m h, shift_alike l k (pos (up_reach b a)) m h)

pub overlap_alike : (b d : Box) (a : Axis) (l k l' k' : Line) (m : Stamp) → Alike l l' m → Alike k k' m → overlap (ends b a l) (ends d a k) m ≡ overlap (ends b a l') (ends d a k') m
overlap_alike b d a l k l' k' m x y =
    let e = ends_alike b a l l' m x in
    let f = ends_alike d a k k' m y in
    ap₂ (λ (s t : Bool). not s && not t)
    (behind_alike (ends b a l).low (ends d a k).high (ends b a l').low (ends d a k').high m e.0 f.1)
    (behind_alike (ends d a k).low (ends b a l).high (ends d a k').low (ends b a l').high m f.0 e.1)

-- ---- on a straight stretch of both paths
module _ (p : Path) (b : Box) (q : Path) (d : Box) (a : Axis) (i e : ℕ) (sp : Straight p a i e) (sq : Straight q a i e) where
  -- before the next break the overlap is that of the legs read at i
  pub near_before : (k : Stamp) → Proper k.time → i * k.time.den ≤ k.time.num → k.time.num < e * k.time.den → near p b q d a k ≡ overlap (ends b a (line_at p a i)) (ends d a (line_at q a i)) k
  near_before k pk x y =
      ap₂ (λ (l m : Line). overlap (ends b a l) (ends d a m) k) (same_leg p a i e k.time sp pk x y) (same_leg q a i e k.time sq pk x y)

  -- at side 0 it asks only for the values, so this holds up to the break itself
  pub near_until : i < e → (t : Fraction) → Proper t → i * t.den ≤ t.num → t.num ≤ e * t.den → near p b q d a (at t) ≡ overlap (ends b a (line_at p a i)) (ends d a (line_at q a i)) (at t)
  near_until o t pt x y =
      overlap_alike b d a (leg p t a) (leg q t a) (line_at p a i) (line_at q a i) (at t)
      (record { values = place_straight p a i e t sp o pt x y; slopes = λ f. absurd (false_true f) })
      (record { values = place_straight q a i e t sq o pt x y; slopes = λ f. absurd (false_true f) })
