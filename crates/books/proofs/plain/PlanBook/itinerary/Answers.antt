use Rattle.std.proofs.Common.{ℕ, ap}
use mathlib.Core.Path.{fun_ext}
use Rattle.rules.specs.Paths.{Path}
use Rattle.books.specs.Plain.{plain_book}
use Rattle.books.proofs.plain.PlanBook.itinerary.Goals as goal

pub returns : goal.returns
returns c = ap (λ (f : ℕ → Path). plain_book f 8) (fun_ext c.new.ensures)
