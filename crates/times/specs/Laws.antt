-- Times of the code with equal values have equal fields, and so have moments.
use Rattle.std.specs.Prelude.{◌≡◌}
use Rattle.rules.specs.Fractions.{SameTime, Usual}
use Rattle.rules.specs.Laws.{SameStamp}
use Rattle.times.specs.declared.time.Time.{Time}
use Rattle.times.specs.declared.moment.Moment.{Moment}
use Rattle.times.specs.Of.{time_of, moment_of}

abbrev pub EqualFields : Type 0
EqualFields = ((s t : Time) → SameTime (time_of s) (time_of t) → s ≡ t) × ((m k : Moment) → SameStamp (moment_of m) (moment_of k) → m ≡ k)

-- every time of the code is in least terms and within its bounds
abbrev pub TimesUsual : Type 0
TimesUsual = (t : Time) → Usual (time_of t)
