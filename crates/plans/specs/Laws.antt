-- What holds of paths: of every path whose slope changes only at break ticks, and of the paths of plans.
use Rattle.std.specs.Prelude.{◌≡◌, ℕ, suc, ◌≤◌, true, List, Some, None, Option}
use Rattle.rules.specs.Basics.{◌∈◌}
use Rattle.rules.specs.Fractions.{Fraction, Proper, Before, NotAfter, tick}
use Rattle.rules.specs.Paths.{Axis, Path, Kept, speed_at, leg, value, position, first_after, standing}
use Rattle.rules.specs.Plans.{Plan, path_of, plan_right}

-- the slope changes only at break ticks
abbrev pub Turns : Path → Type 0
Turns p = (a : Axis) (i : ℕ) → ¬ (suc i ∈ p.breaks) → speed_at p a (suc i) ≡ speed_at p a i

-- not after that tick, where there is one
abbrev pub NotPast : Fraction → Option ℕ → Type 0
NotPast t None = Unit {0}
NotPast t (Some k) = NotAfter t (tick k)

-- The line of the leg read at s gives the position at every fraction from s until the first break after s, both included.
abbrev pub LineHolds : Type 0
LineHolds = (p : Path) → Turns p → (s t : Fraction) → Proper s → Proper t → NotAfter s t → NotPast t (first_after s p.breaks) → (a : Axis) → value (leg p s a) t ≡ position p a t

-- the least of these ticks after t; or none of them is after t
abbrev pub LeastAfter : Fraction → List ℕ → Option ℕ → Type 0
LeastAfter t ks None = (k : ℕ) → k ∈ ks → ¬ (Before t (tick k))
LeastAfter t ks (Some k) = (k ∈ ks) × Before t (tick k) × ((j : ℕ) → j ∈ ks → Before t (tick j) → k ≤ j)

abbrev pub FirstAfterLeast : Type 0
FirstAfterLeast = (t : Fraction) (ks : List ℕ) → LeastAfter t ks (first_after t ks)

-- a plan that keeps its rules gives a path that keeps them at scale 1, and so does standing
abbrev pub PlansKept : Type 0
PlansKept = (p : Plan) → plan_right p ≡ true → Kept 1 (path_of p)

abbrev pub StandingKept : Type 0
StandingKept = Kept 1 standing
