-- The seats of one riding layer.
use Rattle.std.specs.Prelude.{ℕ, cond, ◌||◌, [], ◌∷◌, Some, None, Option, nat_le}
use Rattle.rules.specs.Basics.{put, first_fit}
use Rattle.rules.specs.Books.{Book, out_of_range, carrier_out, carrier_is}

-- the seat that a layer adds over a book: none over a scale above 4
abbrev pub added : (ℕ → Option ℕ) → Book → ℕ → Option ℕ
added seats b c = cond (nat_le b.scale 4) (seats c) None

-- why a seat at a level that there is is not set: a craft out of range, or its own carrier
abbrev pub seat_refusal : (craft : ℕ) → (carrier : Option ℕ) → Option ℕ
seat_refusal c k = first_fit ((2, out_of_range c || carrier_out k) ∷ (3, carrier_is k c) ∷ [])

-- a seat set or emptied, unless that is refused
abbrev pub sat_unless : Option ℕ → (craft : ℕ) → (carrier : Option ℕ) → (ℕ → Option ℕ) → ℕ → Option ℕ
sat_unless None c k seats = put seats c k
sat_unless (Some n) c k seats = seats

abbrev pub sat : (craft : ℕ) → (carrier : Option ℕ) → (ℕ → Option ℕ) → ℕ → Option ℕ
sat c k seats = sat_unless (seat_refusal c k) c k seats
