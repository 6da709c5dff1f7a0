-- The facts of one pair on its paths: overlap on three axes, its meetings and its partings.
use Rattle.std.proofs.Common.{◌≡◌, ◌<◌, Bool, true, false, ◌⊎◌, sym, refl, ◌∙◌, inl, inr, arith}
use Rattle.rules.specs.Fractions.{Fraction, Proper, Before, SameTime}
use Rattle.rules.specs.Stamps.{at, just_after}
use Rattle.rules.specs.Paths.{Axis, Path}
use Rattle.rules.specs.Boxes.{Box, Touch, Meets, Parts}
use Rattle.rules.proofs.Order.{before_not_after, not_after_before}
use Rattle.rules.proofs.Stamped.{false_true}
use Rattle.geometry_laws.specs.Points.{Point, Sooner, Upto, Same, During, on, past, Tells, Wrong, Turning}
use Rattle.geometry_laws.specs.Turns.{near, Near}
use Rattle.geometry_laws.proofs.Behind.{not_so}
use Rattle.geometry_laws.proofs.Flips.{between, after_zero}
use Rattle.geometry_laws.proofs.Moments.{at_after, not_yet}
use Rattle.geometry_laws.proofs.Near.{near_same, near_dec, near_late, one_of}
use Rattle.geometry_laws.proofs.Points.{upto_on, on_past, same_time}
use Rattle.geometry_laws.proofs.Turns.{touch_near, near_touch, recently, recently_proper, recently_before, apart_lead, parting_told, parting_only}

-- ---- meetings and partings by what touches when
pub meets_like : (P Q : Fraction → Type 0) (t : Fraction) → ((r : Fraction) → P r → Q r) → ((r : Fraction) → Q r → P r) → Meets P t → Meets Q t
meets_like P Q t f g m = (f t m.0, (m.1.0, m.1.1, m.1.2, λ r p a b q. m.1.3 r p a b (g r q)))

pub parts_like : (P Q : Fraction → Type 0) (t : Fraction) → ((r : Fraction) → P r → Q r) → ((r : Fraction) → Q r → P r) → Parts P t → Parts Q t
parts_like P Q t f g m = (f t m.0, (m.1.0, m.1.1, m.1.2, λ r p a b q. m.1.3 r p a b (g r q)))

pub meets_at : (P : Fraction → Type 0) (s t : Fraction) → Proper s → Proper t → SameTime s t → (P s → P t) → Meets P s → Meets P t
meets_at P s t ps pt e f m = (
  f m.0,
  (
    m.1.0,
    m.1.1,
    before_not_after m.1.0 s t ps pt m.1.2 (omega (arith, e)),
    λ r p a b. m.1.3 r p a (before_not_after r t s pt ps b (omega (arith, e))),
  ),
)

pub parts_at : (P : Fraction → Type 0) (s t : Fraction) → Proper s → Proper t → SameTime s t → (P s → P t) → Parts P s → Parts P t
parts_at P s t ps pt e f m = (
  f m.0,
  (
    m.1.0,
    m.1.1,
    not_after_before t s m.1.0 pt ps (omega (arith, e)) m.1.2,
    λ r p a b. m.1.3 r p (not_after_before s t r ps pt (omega (arith, e)) a) b,
  ),
)

-- from m until r
pub from_on : (m : Point) (r : Fraction) (p : Proper r) → Before m.stamp.time r → Upto m (on r p)
from_on m r p b = not_yet m.stamp r b

module _ (p : Path) (b : Box) (q : Path) (d : Box) where
  abbrev pub Nears : Axis → Point → Type 0
  Nears a k = Near p b q d a k.stamp

  abbrev pub All : Point → Type 0
  All k = (a : Axis) → Near p b q d a k.stamp

  pub nears_same : (a : Axis) (j k : Point) → Same j k → Nears a j → Nears a k
  nears_same a j k s e = let z = same_time j k s in sym (near_same p b q d a j.stamp k.stamp j.proper k.proper z.0 z.1) ∙ e

  -- overlap until a time is overlap at it
  pub arrives_at : (a : Axis) (m : Point) (u : Fraction) (pu : Proper u) → Sooner m (on u pu) → During (Nears a) m (on u pu) → Nears a (on u pu)
  arrives_at a m u pu h f = go (near_dec p b q d a (at u))
    where
      l : Before m.stamp.time u
      l = at_after m.stamp u h

      o : 0 < u.num
      o = after_zero m.stamp.time u l

      go : Dec (Near p b q d a (at u)) → Near p b q d a (at u)
      go (yes x) = x
      go (no x) =
          let z = between m.stamp.time (recently p b q d u pu o) u m.proper (recently_proper p b q d u pu o) pu l (recently_before p b q d u pu o) in
          absurd (false_true (sym (apart_lead p b q d u pu o a (not_so (near p b q d a (at u)) x) z.0 z.1 z.3 z.4) ∙ f (on z.0 z.1) (from_on m z.0 z.1 z.2) (inl z.4)))

  pub off_after : (a : Axis) (u : Fraction) (pu : Proper u) → ¬ (Nears a (on u pu)) → ¬ (Nears a (past u pu))
  off_after a u pu n c = n (near_late p b q d a u c)

  -- ---- what turns at n is what was told until n and is wrong there
  module _ (bit : Bool) (m : Point) (u : Fraction) (pu : Proper u) where
    pub meets_wrong : Sooner m (on u pu) → During (λ k. Tells bit (All k)) m (on u pu) → Meets (Touch p b q d) u → Wrong bit (All (on u pu))
    meets_wrong h f t = go bit f
      where
        go : (c : Bool) → During (λ k. Tells c (All k)) m (on u pu) → Wrong c (All (on u pu))
        go false f = touch_near p b q d u t.0
        go true f =
            let z = between m.stamp.time t.1.0 u m.proper t.1.1 pu (at_after m.stamp u h) t.1.2 in
            absurd (t.1.3 z.0 z.1 z.3 z.4 (near_touch p b q d z.0 (f (on z.0 z.1) (from_on m z.0 z.1 z.2) (inl z.4))))

    pub wrong_meets : Sooner m (on u pu) → During (λ k. Tells bit (All k)) m (on u pu) → Wrong bit (All (on u pu)) → Meets (Touch p b q d) u
    wrong_meets h f e = go bit f e
      where
        go : (c : Bool) → During (λ k. Tells c (All k)) m (on u pu) → Wrong c (All (on u pu)) → Meets (Touch p b q d) u
        go true f e = absurd (e (λ a. arrives_at a m u pu h (λ k i j. f k i j a)))
        go false f e =
            (near_touch p b q d u e, (m.stamp.time, m.proper, at_after m.stamp u h, λ r pr i j c. f (on r pr) (from_on m r pr i) (inl j) (touch_near p b q d r c)))

    pub parts_wrong : Sooner m (past u pu) → During (λ k. Tells bit (All k)) m (past u pu) → Parts (Touch p b q d) u → Wrong bit (All (past u pu))
    parts_wrong h f t = go bit (f (on u pu) (upto_on m u pu h) (on_past u pu pu))
      where
        go : (c : Bool) → Tells c (All (on u pu)) → Wrong c (All (past u pu))
        go false e = absurd (e (touch_near p b q d u t.0))
        go true e = λ f. let z = parting_only p b q d u pu t in false_true (sym z.1 ∙ f z.0)

    pub wrong_parts : Sooner m (past u pu) → During (λ k. Tells bit (All k)) m (past u pu) → Wrong bit (All (past u pu)) → Parts (Touch p b q d) u
    wrong_parts h f e = go bit (f (on u pu) (upto_on m u pu h) (on_past u pu pu)) e
      where
        pick : Touch p b q d u → ¬ (All (past u pu)) → ((a : Axis) → Near p b q d a (just_after u)) ⊎ ((a : Axis) × (¬ (Near p b q d a (just_after u)))) → Parts (Touch p b q d) u
        pick c e (inl a) = absurd (e a)
        pick c e (inr a) = parting_told p b q d u pu c a.0 (not_so (near p b q d a.0 (just_after u)) a.1)

        go : (c : Bool) → Tells c (All (on u pu)) → Wrong c (All (past u pu)) → Parts (Touch p b q d) u
        go false f e = absurd (f (λ a. near_late p b q d a u (e a)))
        go true f e = pick (near_touch p b q d u f) e (one_of (λ a. Near p b q d a (just_after u)) (λ a. near_dec p b q d a (just_after u)))

  -- ---- at every point, by its side
  abbrev sided : Point → Bool → Point
  sided n s = record { stamp = record { time = n.stamp.time; after = s }; proper = n.proper }

  pub nears_arrive : (a : Axis) (m n : Point) → Sooner m n → n.stamp.after ≡ false → During (Nears a) m n → Nears a n
  nears_arrive a m n h e f = go n.stamp.after e h f
    where
      go : (s : Bool) → s ≡ false → Sooner m (sided n s) → During (Nears a) m (sided n s) → Nears a (sided n s)
      go true e h f = absurd (false_true (sym e))
      go false e h f = arrives_at a m n.stamp.time n.proper h f

  pub nears_stay_off : (a : Axis) (m n : Point) → Sooner m n → n.stamp.after ≡ true → During (λ k. ¬ (Nears a k)) m n → ¬ (Nears a n)
  nears_stay_off a m n h e f = go n.stamp.after e h f
    where
      go : (s : Bool) → s ≡ true → Sooner m (sided n s) → During (λ k. ¬ (Nears a k)) m (sided n s) → ¬ (Nears a (sided n s))
      go false e h f = absurd (false_true e)
      go true e h f = off_after a n.stamp.time n.proper (f (on n.stamp.time n.proper) (upto_on m n.stamp.time n.proper h) (on_past n.stamp.time n.proper n.proper))

  pub turning_wrong : (bit : Bool) (m n : Point) → Sooner m n → During (λ k. Tells bit (All k)) m n → Turning (Touch p b q d) n → Wrong bit (All n)
  turning_wrong bit m n h f t = go n.stamp.after h f t
    where
      go : (s : Bool) → Sooner m (sided n s) → During (λ k. Tells bit (All k)) m (sided n s) → Turning (Touch p b q d) (sided n s) → Wrong bit (All (sided n s))
      go false h f t = meets_wrong bit m n.stamp.time n.proper h f t
      go true h f t = parts_wrong bit m n.stamp.time n.proper h f t

  pub wrong_turning : (bit : Bool) (m n : Point) → Sooner m n → During (λ k. Tells bit (All k)) m n → Wrong bit (All n) → Turning (Touch p b q d) n
  wrong_turning bit m n h f t = go n.stamp.after h f t
    where
      go : (s : Bool) → Sooner m (sided n s) → During (λ k. Tells bit (All k)) m (sided n s) → Wrong bit (All (sided n s)) → Turning (Touch p b q d) (sided n s)
      go false h f t = wrong_meets bit m n.stamp.time n.proper h f t
      go true h f t = wrong_parts bit m n.stamp.time n.proper h f t

  -- a touch at one moment is one at it named twice
  pub touch_same : (s t : Fraction) → Proper s → Proper t → SameTime s t → Touch p b q d s → Touch p b q d t
  touch_same s t ps pt e c = near_touch p b q d t (λ a. sym (near_same p b q d a (at s) (at t) ps pt e refl) ∙ touch_near p b q d s c a)

  pub turning_same : (j k : Point) → Same j k → Turning (Touch p b q d) j → Turning (Touch p b q d) k
  turning_same j k s t = let z = same_time j k s in go j.stamp.after k.stamp.after z.1 z.0 t
    where
      go : (x y : Bool) → x ≡ y → SameTime j.stamp.time k.stamp.time → Turning (Touch p b q d) (sided j x) → Turning (Touch p b q d) (sided k y)
      go false false e f t = meets_at (Touch p b q d) j.stamp.time k.stamp.time j.proper k.proper f (touch_same j.stamp.time k.stamp.time j.proper k.proper f) t
      go true true e f t = parts_at (Touch p b q d) j.stamp.time k.stamp.time j.proper k.proper f (touch_same j.stamp.time k.stamp.time j.proper k.proper f) t
      go false true e f t = absurd (false_true e)
      go true false e f t = absurd (false_true (sym e))
