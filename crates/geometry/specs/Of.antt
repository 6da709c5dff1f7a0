-- The code's boxes, spans and gaps as values.
use Rattle.std.specs.Prelude.{ℕ, Bool, cond, not, ◌&&◌, ◌||◌, ℤ, pos, ◌+ℤ◌, ◌-ℤ◌, Some, None, Ok, Err, Option, Result, int_lt, nat_le}
use Rattle.rules.specs.Stamps.{Stamp}
use Rattle.rules.specs.Paths.{Line, xyz, value}
use Rattle.rules.specs.Boxes.{Box, Ends, box_right}
use Rattle.times.specs.declared.moment.Moment.{Moment}
use Rattle.times.specs.declared.refusal.Refusal.{Refusal}
use Rattle.times.specs.Refusals.{number_of}
use Rattle.times.specs.Of.{moment_of}
use Rattle.geometry.specs.declared.reach.Reach.{Reach}
use Rattle.geometry.specs.declared.sizes.HalfSizes.{HalfSizes}
use Rattle.geometry.specs.declared.span.Span.{Span}
use Rattle.geometry.specs.declared.gap.Gap.{Gap}

-- what comes of making a reach
abbrev pub reach_told : Result Reach Refusal → Result ℕ ℕ
reach_told (Ok r) = Ok r.half
reach_told (Err e) = Err (number_of e)

abbrev pub reach_made : ℕ → Result ℕ ℕ
reach_made n = cond (nat_le 1 n && nat_le n 1000) (Ok n) (Err 6)

abbrev pub box_of : HalfSizes → Box
box_of s = record { half = xyz s.each.x.half s.each.y.half s.each.z.half }

-- a box by its half sizes
abbrev pub sizes : (x y z : ℕ) → Box
sizes x y z = record { half = xyz x y z }

-- what comes of making half sizes
abbrev pub box_told : Result HalfSizes Refusal → Result Box ℕ
box_told (Ok s) = Ok (box_of s)
box_told (Err e) = Err (number_of e)

abbrev pub box_made : ℕ → ℕ → ℕ → Result Box ℕ
box_made x y z = cond (box_right (record { half = xyz x y z })) (Ok (record { half = xyz x y z })) (Err 6)

-- (a, v) is the line a + v t
abbrev pub line_of : ℤ × ℤ → Line
line_of l = record { base = l.0; slope = l.1 }

abbrev pub span_of : Span → Ends
span_of s = record {
  low = record { base = s.a -ℤ pos s.down.half; slope = s.v };
  high = record { base = s.a +ℤ pos s.up.half; slope = s.v };
}

abbrev pub gap_of : Gap → Line
gap_of g = record { base = g.a; slope = g.v }

abbrev pub difference : Line → Line → Line
difference u v = record { base = u.base -ℤ v.base; slope = u.slope -ℤ v.slope }

-- a line is above zero; just after a time, one that is zero and rises is
abbrev pub above_zero : Line → Stamp → Bool
above_zero l m = int_lt (pos 0) (value l m.time) || (m.after && not (int_lt (value l m.time) (pos 0)) && int_lt (pos 0) l.slope)

abbrev pub stamp_told : Option Moment → Option Stamp
stamp_told None = None
stamp_told (Some m) = Some (moment_of m)
