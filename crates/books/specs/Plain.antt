-- Books with no levels.
use Rattle.std.specs.Prelude.{ℕ, None}
use Rattle.rules.specs.Paths.{Path}
use Rattle.rules.specs.Books.{Book}
use Rattle.books.specs.declared.plain.PlanBook.{PlanBook}
use Rattle.books.specs.Routes.{routes_of}

-- these own paths, no seats, this leg limit, scale 1
abbrev pub plain_book : (ℕ → Path) → (limit : ℕ) → Book
plain_book own n = record { own = own; levels = 0; seat = λ _ _. None; limit = n; scale = 1 }

-- what a book of plans means
abbrev pub plan_book_of : PlanBook → Book
plan_book_of b = plain_book (routes_of b.routes) b.limit
