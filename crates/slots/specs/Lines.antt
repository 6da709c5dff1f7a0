-- The line of a certificate that is taken away.
use Rattle.std.specs.Prelude.{ℕ}
use Rattle.model.specs.Moves.{fired, withdrawn}
use Rattle.slots.specs.declared.lines.Taken.{Taken}
use Rattle.slots.specs.declared.lines.Taken.TheVariants.{Fired, Withdrawn}

abbrev pub line_of : Taken → ℕ → ℕ
line_of Fired = fired
line_of Withdrawn = withdrawn
