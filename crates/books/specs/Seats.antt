-- What comes of a seat to be taken.
use Rattle.std.specs.Prelude.{ℕ, cond, ◌||◌, Some, None, Ok, Err, Option, Result}
use Rattle.rules.specs.Books.{out_of_range, carrier_out, carrier_is}
use Rattle.times.specs.declared.refusal.Refusal.{Refusal}
use Rattle.times.specs.Refusals.{number_of}
use Rattle.fleet.specs.declared.numbers.Craft.{Craft}
use Rattle.books.specs.declared.seat.Seat.{Seat}

-- the number of a carrier, if there is one
abbrev pub number_in : Option Craft → Option ℕ
number_in None = None
number_in (Some k) = Some k.number

-- the craft and its carrier by number, or the number of the refusal
abbrev pub seat_told : Result Seat Refusal → Result (ℕ × Option ℕ) ℕ
seat_told (Ok s) = Ok (s.craft.number, number_in s.carrier)
seat_told (Err e) = Err (number_of e)

abbrev pub seat_made : (craft : ℕ) → (carrier : Option ℕ) → Result (ℕ × Option ℕ) ℕ
seat_made c k = cond (out_of_range c || carrier_out k) (Err 2) (cond (carrier_is k c) (Err 3) (Ok (c, k)))
