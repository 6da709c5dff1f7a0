-- The code's times and moments as values.
use Rattle.std.specs.Prelude.{ℕ, Ok, Err, Result}
use Rattle.times.specs.declared.time.Time.{Time}
use Rattle.times.specs.declared.moment.Moment.{Moment}
use Rattle.times.specs.declared.refusal.Refusal.{Refusal}
use Rattle.times.specs.Refusals.{number_of}
use Rattle.rules.specs.Fractions.{Fraction}
use Rattle.rules.specs.Stamps.{Stamp}

abbrev pub time_of : Time → Fraction
time_of t = record { num = t.n; den = t.d }

abbrev pub moment_of : Moment → Stamp
moment_of m = record { time = time_of m.time; after = m.after }

-- the result of making a time, as values
abbrev pub time_told : Result Time Refusal → Result Fraction ℕ
time_told (Ok t) = Ok (time_of t)
time_told (Err e) = Err (number_of e)
