-- The buckets of moments, and the order of slots that may be empty.
use Rattle.std.specs.Prelude.{ℕ, ◌%◌, Bool, false, Some, None, Option, ◌==◌}
use Rattle.rules.specs.Fractions.{whole}
use Rattle.times.specs.declared.moment.Moment.{Moment}
use Rattle.times.specs.Of.{moment_of}
use Rattle.queues.specs.Entries.{ahead}

-- the bucket of a moment: the remainder of its whole tick
unfoldable pub bucket : Moment → ℕ
bucket m = whole (moment_of m).time % 128

-- the slot i comes before the slot j, by their moments; empty slots come before nothing and after nothing
unfoldable pub leads : ℕ → Option Moment → ℕ → Option Moment → Bool
leads i None j o = false
leads i (Some m) j None = false
leads i (Some m) j (Some k) = ahead (i, m) (j, k)

-- whether a slot's moment lies in bucket b
unfoldable pub lies : Option Moment → ℕ → Bool
lies None b = false
lies (Some m) b = bucket m == b
