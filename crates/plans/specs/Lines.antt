-- The line of a path of legs, leg by leg: what each leg adds to it.
use Rattle.std.specs.Prelude.{ℕ, ◌-◌, cond, List, [], ◌∷◌, ℤ, pos, ◌+ℤ◌, ◌*ℤ◌, neg_ℤ, Some, None, Option, nat_lt}
use Rattle.rules.specs.Paths.{Axis, Line}
use Rattle.rules.specs.Plans.{Leg, until}

-- a line as a pair: its base A and its slope V
abbrev pub line_of : ℤ × ℤ → Line
line_of l = record { base = l.0; slope = l.1 }

abbrev pub plus : ℤ × ℤ → ℤ × ℤ → ℤ × ℤ
plus l m = (l.0 +ℤ m.0, l.1 +ℤ m.1)

-- what a leg from one tick to another adds at tick i: nothing before it, its own line while it runs, its whole way after it
abbrev pub leg_line : ℤ → (from to i : ℕ) → ℤ × ℤ
leg_line v from to i = cond (nat_lt i from) (pos 0, pos 0) (cond (nat_lt i to) (neg_ℤ (v *ℤ pos from), v) (v *ℤ pos (to - from), pos 0))

abbrev pub legs_line : List Leg → ℕ → Axis → ℕ → ℤ × ℤ
legs_line [] end a i = (pos 0, pos 0)
legs_line (l ∷ ls) end a i = plus (leg_line (l.speed a) l.from (until ls end) i) (legs_line ls end a i)

-- the first of these ticks that is above w
abbrev pub first_past : ℕ → List ℕ → Option ℕ
first_past w [] = None
first_past w (k ∷ ks) = cond (nat_lt w k) (Some k) (first_past w ks)
