-- The order of times by their values, and of moments by their times and then their sides.
use Rattle.std.specs.Prelude.{◌*◌}
use Rattle.std.specs.declared.cmp.Ordering.{Ordering}
use Rattle.std.specs.Ordering.{nat_cmp, bool_cmp, ordering_then}
use Rattle.times.specs.declared.time.Time.{Time}
use Rattle.times.specs.declared.moment.Moment.{Moment}

-- by cross multiplication
abbrev pub time_cmp : Time → Time → Ordering
time_cmp s t = nat_cmp (s.n * t.d) (t.n * s.d)

abbrev pub moment_cmp : Moment → Moment → Ordering
moment_cmp m k = ordering_then (time_cmp m.time k.time) (bool_cmp m.after k.after)
