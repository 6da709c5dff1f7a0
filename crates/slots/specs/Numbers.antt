-- Numbers that stand in slots.
use Rattle.std.specs.Prelude.{ℕ, zero, suc, Some, None, Option}
use Rattle.slots.specs.declared.numbers.Number.{Number}

-- the number that stands in a slot of the model, where 0 is none
abbrev pub number_in : ℕ → Option ℕ
number_in zero = None
number_in (suc n) = Some (suc n)

abbrev pub number_told : Option Number → Option ℕ
number_told None = None
number_told (Some n) = Some n.value
