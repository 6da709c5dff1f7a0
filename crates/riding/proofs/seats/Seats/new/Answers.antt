use Rattle.std.proofs.Common.{ap}
use Rattle.books.specs.Seats.{number_in}
use Rattle.riding.proofs.Seating.{none_here}
use Rattle.riding.proofs.seats.Seats.new.Goals as goal

pub returns : goal.returns
returns c k = ap number_in (none_here 64 k)
