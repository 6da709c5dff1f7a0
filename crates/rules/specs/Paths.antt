-- Paths: a position at every tick on each axis, straight between; and the lines they run on.
use Rattle.std.specs.Prelude.{◌≡◌, ℕ, suc, ◌*◌, ◌≤◌, min, Bool, cond, ◌&&◌, List, [], ◌∷◌, ◌++◌, ℤ, pos, ◌+ℤ◌, ◌-ℤ◌, ◌*ℤ◌, Some, None, Option, unsigned_abs}
use Rattle.rules.specs.Basics.{◌∈◌}
use Rattle.rules.specs.Fractions.{Fraction, tick, whole, is_before}

pub data Axis : Type 0 where
  X : Axis
  Y : Axis
  Z : Axis

-- one value an axis
abbrev pub xyz : {A : Type 0} → A → A → A → Axis → A
xyz u v w X = u
xyz u v w Y = v
xyz u v w Z = w

abbrev pub on_every_axis : (Axis → Bool) → Bool
on_every_axis p = p X && p Y && p Z

-- on each axis a position at every tick, straight between; and its break ticks
pub record Path : Type 0 where
  pub place : Axis → ℕ → ℤ
  pub breaks : List ℕ

abbrev pub sum : Path → Path → Path
sum p q = record { place = λ a i. p.place a i +ℤ q.place a i; breaks = p.breaks ++ q.breaks }

abbrev pub standing : Path
standing = record { place = λ a i. pos 0; breaks = [] }

-- the line base + slope × t
pub record Line : Type 0 where
  pub base : ℤ
  pub slope : ℤ

-- how far a path goes from tick i to the next
abbrev pub speed_at : Path → Axis → ℕ → ℤ
speed_at p a i = p.place a (suc i) -ℤ p.place a i

-- the line that a path runs on from tick i to the next
abbrev pub line_at : Path → Axis → ℕ → Line
line_at p a i = record { base = p.place a i -ℤ (speed_at p a i *ℤ pos i); slope = speed_at p a i }

-- the leg of a path at a time: the line that it then runs on or begins
abbrev pub leg : Path → Fraction → Axis → Line
leg p t a = line_at p a (whole t)

-- a line's value at t, times t's denominator
abbrev pub value : Line → Fraction → ℤ
value l t = (l.base *ℤ pos t.den) +ℤ (l.slope *ℤ pos t.num)

-- a path's position at t, times t's denominator
abbrev pub position : Path → Axis → Fraction → ℤ
position p a t = value (leg p t a) t

abbrev pub min_with : ℕ → Option ℕ → ℕ
min_with k None = k
min_with k (Some j) = min k j

-- the first of these ticks that comes after t
abbrev pub first_after : Fraction → List ℕ → Option ℕ
first_after t [] = None
first_after t (k ∷ ks) = let o = first_after t ks in cond (is_before t (tick k)) (Some (min_with k o)) o

-- A path that keeps the rules at a scale s: its slope changes only at break ticks, it stands after tick 50,000
-- with no break there, and its positions and lines lie within the scale.
pub record Kept (s : ℕ) (p : Path) : Type 0 where
  pub turns : (a : Axis) (i : ℕ) → ¬ (suc i ∈ p.breaks) → speed_at p a (suc i) ≡ speed_at p a i
  pub stays : (a : Axis) (i : ℕ) → 50000 ≤ i → p.place a i ≡ p.place a 50000
  pub ends : (k : ℕ) → k ∈ p.breaks → k ≤ 50000
  pub places : (a : Axis) (i : ℕ) → unsigned_abs (p.place a i) ≤ 51000000 * s
  pub slopes : (a : Axis) (i : ℕ) → unsigned_abs (line_at p a i).slope ≤ 1000 * s
  pub bases : (a : Axis) (i : ℕ) → unsigned_abs (line_at p a i).base ≤ 101000000 * s
