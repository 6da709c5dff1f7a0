-- What comes of making a craft from a number.
use Rattle.std.specs.Prelude.{ℕ, cond, Ok, Err, Result, nat_lt}
use Rattle.times.specs.declared.refusal.Refusal.{Refusal}
use Rattle.times.specs.Refusals.{number_of}
use Rattle.fleet.specs.declared.numbers.Craft.{Craft}

-- the craft's number, or refusal 2
abbrev pub craft_told : Result Craft Refusal → Result ℕ ℕ
craft_told (Ok c) = Ok c.number
craft_told (Err e) = Err (number_of e)

abbrev pub craft_made : ℕ → Result ℕ ℕ
craft_made n = cond (nat_lt n 64) (Ok n) (Err 2)
