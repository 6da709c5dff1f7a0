use Rattle.std.proofs.Common.{ℕ, ap, ◌∙◌, arith}
use Rattle.rules.specs.Basics.{put}
use Rattle.plans.specs.Routes.{route_path}
use Rattle.books.specs.Routes.{routes_of}
use Rattle.books.specs.Plains.{owns_set}
use Rattle.books.proofs.routes.Routes.set.Goals as goal

pub returns : goal.returns
returns c =
    let s = c.args.self.now in
    let h = c.place.ensures.below in
    let e = s.size in
    owns_set s.table c.place.result c.args.route (omega arith) ∙ ap (λ (n : ℕ). put (routes_of s) n (route_path c.args.route)) c.place.ensures.value
