-- Flight plans, and the path of a plan.
use Rattle.std.specs.Prelude.{ℕ, ◌-◌, min, Bool, true, ◌&&◌, List, [], ◌∷◌, ◌++◌, map, ℤ, pos, ◌+ℤ◌, ◌*ℤ◌, nat_le, nat_lt, unsigned_abs}
use Rattle.rules.specs.Paths.{Axis, Path, on_every_axis}

-- a leg of a plan: its start tick and a speed on each axis
pub record Leg : Type 0 where
  pub from : ℕ
  pub speed : Axis → ℤ

-- Where a craft stands at first, its legs, and the tick at which the last leg ends.
-- `count` is how many legs the plan names; `legs` are those, as far as a plan can hold them.
pub record Plan : Type 0 where
  pub start : Axis → ℤ
  pub count : ℕ
  pub legs : List Leg
  pub end : ℕ

-- the tick at which the leg before these ends: where the next starts, or the end tick
abbrev pub until : List Leg → ℕ → ℕ
until [] end = end
until (l ∷ ls) end = l.from

-- how far the legs have gone by tick i
abbrev pub gone : List Leg → ℕ → Axis → ℕ → ℤ
gone [] end a i = pos 0
gone (l ∷ ls) end a i = (l.speed a *ℤ pos (min i (until ls end) - min i l.from)) +ℤ gone ls end a i

-- it stands until the first leg, and after the end tick; the start ticks and the end tick are its breaks
abbrev pub path_of : Plan → Path
path_of p = record { place = λ a i. p.start a +ℤ gone p.legs p.end a i; breaks = map (λ (l : Leg). l.from) p.legs ++ (p.end ∷ []) }

abbrev pub within : ℕ → ℤ → Bool
within n z = nat_le (unsigned_abs z) n

-- the start ticks rise strictly, the last below the end tick, and the speeds are in range
abbrev pub legs_right : List Leg → ℕ → Bool
legs_right [] end = true
legs_right (l ∷ ls) end = nat_lt l.from (until ls end) && (on_every_axis (λ a. within 1000 (l.speed a)) && legs_right ls end)

-- whether a plan keeps its rules
abbrev pub plan_right : Plan → Bool
plan_right p =
    on_every_axis (λ a. within 1000000 (p.start a))
    && (nat_le 1 p.count && nat_le p.count 8)
    && legs_right p.legs p.end
    && nat_le p.end 50000
