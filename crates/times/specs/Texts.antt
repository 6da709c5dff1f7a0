-- The text of a time.
use Rattle.std.specs.Prelude.{ℕ, cond, List, ◌++◌, codes, decimal, ◌==◌}
use Rattle.rules.specs.Fractions.{Fraction}

-- N where the denominator is 1, else N/D
abbrev pub time_text : ℕ → ℕ → List ℕ
time_text n d = cond (d == 1) (decimal n) (decimal n ++ (codes "/" ++ decimal d))

-- the text of a time
abbrev pub fraction_text : Fraction → List ℕ
fraction_text t = time_text t.num t.den
