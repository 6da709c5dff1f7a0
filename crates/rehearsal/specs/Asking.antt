-- Openings and the leg question as they are typed.
use Rattle.std.specs.Prelude.{ℕ, Bool, cond, Some, None, Ok, Err, Option, Result, nat_lt}
use Rattle.rules.specs.Fractions.{Fraction, time_made}
use Rattle.rules.specs.Paths.{Axis, Line}
use Rattle.rules.specs.Books.{Book, out_of_range}
use Rattle.times.specs.declared.refusal.Refusal.{Refusal}
use Rattle.times.specs.declared.refusal.Refusal.TheVariants.{Scale, QueueHolds}
use Rattle.books.specs.Told.{leg_answer}

-- why no console opens, by the book's scale and whether the queue is empty
abbrev pub opening_refusal : ℕ → Bool → Option Refusal
opening_refusal scale empty = cond (nat_lt 8 scale) (Some Scale) (cond empty None (Some QueueHolds))

abbrev pub refused_by : Option Refusal → Result (Unit {0}) Refusal
refused_by None = Ok tt
refused_by (Some e) = Err e

abbrev pub leg_when : Book → ℕ → Result Fraction ℕ → Result ((Axis → Line) × Option ℕ) ℕ
leg_when b c (Ok t) = leg_answer b c t
leg_when b c (Err e) = Err e

-- the craft is looked at first, then the time
abbrev pub leg_typed : Book → (craft n d : ℕ) → Result ((Axis → Line) × Option ℕ) ℕ
leg_typed b c n d = cond (out_of_range c) (Err 2) (leg_when b c (time_made n d))
