-- Tables of routes, as values.
use Rattle.std.specs.Prelude.{ℕ, List, Some, None, Option, slice_index_or}
use Rattle.rules.specs.Paths.{Path, standing}
use Rattle.plans.specs.declared.route.Route.{Route}
use Rattle.plans.specs.Routes.{route_path}
use Rattle.books.specs.declared.routes.Routes.{Routes}

-- with no route a craft stands
abbrev pub own_of : Option Route → Path
own_of None = standing
own_of (Some r) = route_path r

abbrev pub owns_of : List (Option Route) → ℕ → Path
owns_of rs c = own_of (slice_index_or rs c None)

abbrev pub routes_of : Routes → ℕ → Path
routes_of r = owns_of r.table
