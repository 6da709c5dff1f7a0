use Rattle.std.proofs.Common.{ℕ, ◌+◌, ◌<◌}
use Rattle.rules.specs.Fractions.{Divides}
use Rattle.times.proofs.time.gcd.gcd.Given as goal

-- the same numbers divide both pairs
abbrev pub invariant-loop-b : goal.invariant-loop-b
invariant-loop-b l =
    (0 < l.a + l.b)
    × ((k : ℕ) → Divides k l.a → Divides k l.b → Divides k l.m × Divides k l.n)
    × ((k : ℕ) → Divides k l.m → Divides k l.n → Divides k l.a × Divides k l.b)

abbrev pub decreases-loop-b : goal.decreases-loop-b
decreases-loop-b l = l.b
