-- Moments as values: a fraction and a side.
use Rattle.std.specs.Prelude.{ℕ, ◌<◌, Bool, true, false, cond, not, ◌&&◌, ◌||◌, ◌⊎◌, List, [], ◌∷◌, Some, None, Option}
use Rattle.rules.specs.Fractions.{Fraction, Before, SameTime, is_before}

-- a time and a side: the instant itself, or just after it
pub record Stamp : Type 0 where
  pub time : Fraction
  pub after : Bool

abbrev pub at : Fraction → Stamp
at t = record { time = t; after = false }

abbrev pub just_after : Fraction → Stamp
just_after t = record { time = t; after = true }

-- the side by its number
abbrev pub side : Bool → ℕ
side false = 0
side true = 1

-- time orders moments, then side
abbrev pub Earlier : Stamp → Stamp → Type 0
Earlier m k = Before m.time k.time ⊎ (SameTime m.time k.time × (side m.after < side k.after))

abbrev pub NotEarlier : Stamp → Stamp → Type 0
NotEarlier m k = ¬ (Earlier m k)

-- the same as a test
abbrev pub is_earlier : Stamp → Stamp → Bool
is_earlier m k = is_before m.time k.time || (not (is_before k.time m.time) && (not m.after && k.after))

abbrev pub earlier_of : Stamp → Option Stamp → Stamp
earlier_of m None = m
earlier_of m (Some k) = cond (is_earlier k m) k m

abbrev pub earliest : List Stamp → Option Stamp
earliest [] = None
earliest (m ∷ ms) = Some (earlier_of m (earliest ms))
