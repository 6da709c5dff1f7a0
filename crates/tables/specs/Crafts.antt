-- The code's records of craft as values.
use Rattle.std.specs.Prelude.{ℕ, ℤ, List, Some, None, Option, slice_index_or}
use Rattle.rules.specs.Basics.{the}
use Rattle.rules.specs.Paths.{Axis, Line, xyz}
use Rattle.rules.specs.Boxes.{Box}
use Rattle.fleet.specs.declared.axes.Xyz.{Xyz}
use Rattle.plans.specs.Lines.{line_of}
use Rattle.geometry.specs.Of.{box_of}
use Rattle.model.specs.Halls.{Craft}
use Rattle.model.specs.Moves.{nobody}
use Rattle.tables.specs.declared.craft.CraftRecord.{CraftRecord}

abbrev pub with_legs : Box → (Axis → Line) → Craft
with_legs b l = record { box = b; leg = l }

abbrev pub lines_of : Xyz (ℤ × ℤ) → Axis → Line
lines_of l = xyz (line_of l.x) (line_of l.y) (line_of l.z)

abbrev pub record_of : CraftRecord → Craft
record_of r = with_legs (box_of r.half) (lines_of r.legs)

abbrev pub record_in : Option CraftRecord → Option Craft
record_in None = None
record_in (Some r) = Some (record_of r)

abbrev pub records_in : List (Option CraftRecord) → ℕ → Option Craft
records_in xs c = record_in (slice_index_or xs c None)

-- a place in the table whose craft takes new legs
abbrev pub turned : (Axis → Line) → Option Craft → Option Craft
turned l o = Some (with_legs (the nobody o).box l)
