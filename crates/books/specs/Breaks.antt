-- The earlier of two breaks.
use Rattle.std.specs.Prelude.{ℕ, Some, None, Option}
use Rattle.rules.specs.Paths.{min_with}

-- the earlier of two breaks, where there are any
abbrev pub earlier : Option ℕ → Option ℕ → Option ℕ
earlier None p = p
earlier (Some k) p = Some (min_with k p)
