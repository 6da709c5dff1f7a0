-- Answers to the leg question added.
use Rattle.std.specs.Prelude.{◌≤◌, ℤ, unsigned_abs}
use Rattle.fleet.specs.declared.axes.Axis.{Axis}
use Rattle.fleet.specs.Axes.{part}
use Rattle.plans.specs.declared.answer.LegAnswer.{LegAnswer}
use Rattle.plans.specs.Lines.{plus}
use Rattle.books.specs.Breaks.{earlier}

abbrev pub added_legs : LegAnswer → LegAnswer → LegAnswer
added_legs l m = record { lines = record { x = plus l.lines.x m.lines.x; y = plus l.lines.y m.lines.y; z = plus l.lines.z m.lines.z }; next = earlier l.next m.next }

-- a line within scale 4
pub record Small (l : ℤ × ℤ) : Type 0 where
  pub base : unsigned_abs l.0 ≤ 404000000
  pub slope : unsigned_abs l.1 ≤ 4000

abbrev pub SmallLegs : LegAnswer → Type 0
SmallLegs l = (a : Axis) → Small (part l.lines a)
