-- Pairs of boxes on their paths are kinetic: meetings at side 0 and partings at side 1 are the turns of their overlap.
use Rattle.std.proofs.Common.{◌≡◌, Bool, true, false, not, sym, ◌∙◌}
use Rattle.rules.specs.Fractions.{Fraction, Proper}
use Rattle.rules.specs.Stamps.{at}
use Rattle.rules.specs.Paths.{Axis, Path, on_every_axis}
use Rattle.rules.specs.Boxes.{Box, Touch}
use Rattle.rules.proofs.Stamped.{false_true}
use Rattle.geometry_laws.specs.Turns.{near}
use Rattle.geometry_laws.specs.Points.{Point, Tells, Wrong, Turning}
use Rattle.geometry_laws.proofs.Behind.{not_so}
use Rattle.geometry_laws.proofs.Points.{same_time}
use Rattle.geometry_laws.proofs.Near.{near_same}
use Rattle.geometry_laws.proofs.Turns.{touch_near, near_touch}
use Rattle.geometry_laws.proofs.Pair.{nears_arrive, nears_stay_off, turning_wrong, wrong_turning}
use Rattle.events.specs.Machine.{Sky, Pair, box_of}
use Rattle.events.proofs.Tales.{Kinetic, every, every_set}

-- ---- all three axes as one bit, and as a fact
all_set : (f : Axis → Bool) → ((a : Axis) → f a ≡ true) → on_every_axis f ≡ true
all_set f h = every f (λ _. true) h

bit_tells : (c : Bool) (f : Axis → Bool) → c ≡ on_every_axis f → Tells c ((a : Axis) → f a ≡ true)
bit_tells true f e = every_set f (sym e)
bit_tells false f e = λ h. false_true (e ∙ all_set f h)

wrong_bit : (c : Bool) (f : Axis → Bool) → Wrong c ((a : Axis) → f a ≡ true) → on_every_axis f ≡ not c
wrong_bit true f w = not_so (on_every_axis f) (λ e. w (every_set f e))
wrong_bit false f w = all_set f w

bit_wrong : (c : Bool) (f : Axis → Bool) → on_every_axis f ≡ not c → Wrong c ((a : Axis) → f a ≡ true)
bit_wrong true f e = λ h. false_true (sym e ∙ all_set f h)
bit_wrong false f e = every_set f e

module _ (p : Path) (b : Box) (q : Path) (d : Box) where
  pub touch_all : (t : Fraction) (pt : Proper t) → Touch p b q d t → on_every_axis (λ a. near p b q d a (at t)) ≡ true
  touch_all t pt h = all_set (λ a. near p b q d a (at t)) (touch_near p b q d t h)

  pub all_touch : (t : Fraction) (pt : Proper t) → on_every_axis (λ a. near p b q d a (at t)) ≡ true → Touch p b q d t
  all_touch t pt e = near_touch p b q d t (every_set (λ a. near p b q d a (at t)) e)

-- whether the pair overlaps on the axis at k, each craft on the leg that its path then begins or is on
abbrev pub so : Sky → Pair → Axis → Point → Bool
so y i a k = near (y.path i.lower) (box_of y i.lower) (y.path i.higher) (box_of y i.higher) a k.stamp

abbrev pub Touches : Sky → Pair → Fraction → Type 0
Touches y i = Touch (y.path i.lower) (box_of y i.lower) (y.path i.higher) (box_of y i.higher)

abbrev pub Turns : Sky → Pair → Point → Type 0
Turns y i = Turning (Touches y i)

pub sky_kinetic : (y : Sky) → Kinetic (so y) (Turns y)
sky_kinetic y = record {
  same = λ i a j k s. near_same (y.path i.lower) (box_of y i.lower) (y.path i.higher) (box_of y i.higher) a j.stamp k.stamp j.proper k.proper (same_time j k s).0 (same_time j k s).1;
  arrives = λ i a m n h e f. nears_arrive (y.path i.lower) (box_of y i.lower) (y.path i.higher) (box_of y i.higher) a m n h e f;
  stays_off = λ i a m n h e f. not_so (so y i a n) (nears_stay_off (y.path i.lower) (box_of y i.lower) (y.path i.higher) (box_of y i.higher) a m n h e (λ k u v g. false_true (sym (f k u v) ∙ g)));
  turn_wrong = λ i c m n h f t. wrong_bit c (λ a. so y i a n)
      (turning_wrong (y.path i.lower) (box_of y i.lower) (y.path i.higher) (box_of y i.higher) c m n h (λ k u v. bit_tells c (λ a. so y i a k) (f k u v)) t);
  wrong_turn = λ i c m n h f e.
      wrong_turning (y.path i.lower) (box_of y i.lower) (y.path i.higher) (box_of y i.higher) c m n h (λ k u v. bit_tells c (λ a. so y i a k) (f k u v)) (bit_wrong c (λ a. so y i a n) e);
}
