-- Tables of seats, as values.
use Rattle.std.specs.Prelude.{ℕ, None, Option, slice_index_or}
use Rattle.books.specs.Seats.{number_in}
use Rattle.riding.specs.declared.seats.Seats.{Seats}

abbrev pub seats_of : Seats → ℕ → Option ℕ
seats_of s c = number_in (slice_index_or s.table c None)
