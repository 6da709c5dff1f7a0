-- Meetings and partings of two boxes on their paths, told by the overlap on their legs.
use Rattle.std.specs.Prelude.{◌≡◌, ℕ, ◌-◌, ◌/◌, Bool, true, false}
use Rattle.rules.specs.Fractions.{Fraction, Proper, Before, Throughout}
use Rattle.rules.specs.Stamps.{Stamp, at, just_after}
use Rattle.rules.specs.Paths.{Axis, Path, line_at, leg}
use Rattle.rules.specs.Boxes.{Box, ends, overlap, Touch, Meets, Parts}

-- whether the boxes overlap on an axis at a moment, each on the leg that its path then begins or is on
abbrev pub near : Path → Box → Path → Box → Axis → Stamp → Bool
near p b q d a k = overlap (ends b a (leg p k.time a)) (ends d a (leg q k.time a)) k

-- as a fact
abbrev pub Near : Path → Box → Path → Box → Axis → Stamp → Type 0
Near p b q d a k = near p b q d a k ≡ true

-- the last tick before t, whose leg leads to t
abbrev pub lead : Fraction → ℕ
lead t = (t.num - 1) / t.den

-- whether they overlap at r on the legs that lead to t
abbrev pub near_on : Path → Box → Path → Box → Fraction → Axis → Fraction → Bool
near_on p b q d t a r = overlap (ends b a (line_at p a (lead t))) (ends d a (line_at q a (lead t))) (at r)

-- they touch at t, and just after t some axis does not overlap on the legs read at t
pub record PartsOn (p : Path) (b : Box) (q : Path) (d : Box) (t : Fraction) : Type 0 where
  pub touch : Touch p b q d t
  pub axis : Axis
  pub apart : near p b q d axis (just_after t) ≡ false

-- they touch at t, and on the legs that lead to t some axis did not overlap throughout a stretch before t
pub record MeetsOn (p : Path) (b : Box) (q : Path) (d : Box) (t : Fraction) : Type 0 where
  pub touch : Touch p b q d t
  pub axis : Axis
  pub start : Fraction
  pub proper : Proper start
  pub before : Before start t
  pub apart : Throughout (λ r. near_on p b q d t axis r ≡ false) start t

-- for any two paths and boxes: these are the partings, and the meetings
pub record TurnsTold (p : Path) (b : Box) (q : Path) (d : Box) (t : Fraction) : Type 0 where
  pub parts_on : Parts (Touch p b q d) t → PartsOn p b q d t
  pub on_parts : PartsOn p b q d t → Parts (Touch p b q d) t
  pub meets_on : Meets (Touch p b q d) t → MeetsOn p b q d t
  pub on_meets : MeetsOn p b q d t → Meets (Touch p b q d) t

abbrev pub AllTurnsTold : Type 0
AllTurnsTold = (p : Path) (b : Box) (q : Path) (d : Box) (t : Fraction) → Proper t → TurnsTold p b q d t

-- two boxes touch exactly if they overlap on every axis
abbrev pub TouchesTold : Type 0
TouchesTold = (p : Path) (b : Box) (q : Path) (d : Box) (t : Fraction) → (Touch p b q d t → (a : Axis) → Near p b q d a (at t)) × (((a : Axis) → Near p b q d a (at t)) → Touch p b q d t)
