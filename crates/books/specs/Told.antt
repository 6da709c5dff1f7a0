-- What the calls of a flight book are to tell, and their results as values.
use Rattle.std.specs.Prelude.{ℕ, Bool, cond, ◌||◌, Some, None, Ok, Err, Option, Result}
use Rattle.rules.specs.Fractions.{Fraction}
use Rattle.rules.specs.Paths.{Axis, Line}
use Rattle.rules.specs.Plans.{Plan}
use Rattle.rules.specs.Books.{Book, BookChange, file, ride, path, follows, out_of_range}
use Rattle.times.specs.declared.refusal.Refusal.{Refusal}
use Rattle.times.specs.Refusals.{number_of}
use Rattle.plans.specs.declared.answer.LegAnswer.{LegAnswer}
use Rattle.plans.specs.Routes.{answer_of, leg_asked}

-- the two changes
abbrev pub filing : (craft : ℕ) → Plan → BookChange
filing = file

abbrev pub seating : (craft level : ℕ) → (carrier : Option ℕ) → BookChange
seating = ride

-- the number of a refusal, where there is one
abbrev pub refusal_told : {A : Type 0} → Result A Refusal → Option ℕ
refusal_told (Ok x) = None
refusal_told (Err e) = Some (number_of e)

-- the leg question: the lines and the first break, or 2
abbrev pub leg_told : Result LegAnswer Refusal → Result ((Axis → Line) × Option ℕ) ℕ
leg_told (Ok l) = Ok (answer_of l)
leg_told (Err e) = Err (number_of e)

abbrev pub leg_answer : Book → ℕ → Fraction → Result ((Axis → Line) × Option ℕ) ℕ
leg_answer b c t = cond (out_of_range c) (Err 2) (Ok (leg_asked (path b c) t))

-- the follow question: whether the craft follows the leader, or 2
abbrev pub follow_told : Result Bool Refusal → Result Bool ℕ
follow_told (Ok x) = Ok x
follow_told (Err e) = Err (number_of e)

abbrev pub follow_answer : Book → (craft leader : ℕ) → Result Bool ℕ
follow_answer b d c = cond (out_of_range d || out_of_range c) (Err 2) (Ok (follows b c d))
