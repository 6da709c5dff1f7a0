use Rattle.std.proofs.Common.{ℕ, None, Option, sym, ap, ◌∙◌, get_or, arith}
use Rattle.std.proofs.lemmas.List.{get_or_default}
use Rattle.times.specs.Of.{time_of}
use Rattle.plans.specs.declared.route.Route.{Route}
use Rattle.plans.specs.Routes.{leg_asked}
use Rattle.books.specs.Routes.{own_of}
use Rattle.books.proofs.routes.Routes.leg.Goals as goal

pub returns-in-None : goal.returns-in-None
returns-in-None c =
    let s = c.args.self.now in
    let h = c.place.ensures.below in
    let e = s.size in
    c.unplanned.ensures (time_of c.args.t)
    ∙ ap (λ (o : Option Route). leg_asked (own_of o) (time_of c.args.t))
    (sym c.in-None.is ∙ get_or_default s.table c.place.result c.index-self-place.result None (omega arith) ∙ ap (λ (n : ℕ). get_or s.table n None) c.place.ensures.value)

pub returns-in-Some : goal.returns-in-Some
returns-in-Some c =
    let s = c.args.self.now in
    let h = c.place.ensures.below in
    let e = s.size in
    c.leg.ensures
    ∙ ap (λ (o : Option Route). leg_asked (own_of o) (time_of c.args.t))
    (sym c.in-Some.is ∙ get_or_default s.table c.place.result c.index-self-place.result None (omega arith) ∙ ap (λ (n : ℕ). get_or s.table n None) c.place.ensures.value)
