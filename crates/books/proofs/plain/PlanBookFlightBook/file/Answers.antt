use Rattle.std.proofs.Common.{ℕ, ap, ◌∙◌, ap₂}
use Rattle.rules.specs.Basics.{put}
use Rattle.rules.specs.Paths.{Path}
use Rattle.plans.specs.Of.{plan_of}
use Rattle.books.specs.Told.{filing}
use Rattle.books.specs.Routes.{routes_of}
use Rattle.books.specs.Plain.{plain_book}
use Rattle.books.proofs.Rows.{accepted_done, craft_ok, made_ok, file_done}
use Rattle.books.proofs.plain.PlanBookFlightBook.file.Goals as goal

pub returns-clause-after : goal.returns-clause-after
returns-clause-after c =
    let old = routes_of c.args.self.now.routes in
    let limit = c.args.self.now.limit in
    let p = plan_of c.args.plan in
    let q = craft_ok c.args.craft c.in_ok-craft.craft.number c.in_ok-craft.ensures in
    let m = made_ok p _ c.in_ok-route.ensures in
    let e = file_done c.args.craft p (plain_book old limit) q.0 m.0 c.if-plan-self.false in
    ap (λ (f : ℕ → Path). plain_book f limit) (c.set.ensures ∙ ap₂ (put old) q.1 m.1)
    ∙ accepted_done (filing c.args.craft p) (plain_book old limit) e
