use Rattle.std.proofs.Common.{ℕ, Ok, Option, Result, ap, ◌∙◌}
use Rattle.rules.specs.Paths.{Axis, Line}
use Rattle.times.specs.Of.{time_of}
use Rattle.plans.specs.Routes.{leg_asked}
use Rattle.books.specs.Routes.{routes_of}
use Rattle.books.proofs.Rows.{craft_ok, leg_in_range}
use Rattle.books.proofs.plain.PlanBookFlightBook.leg.Goals as goal

told : (Axis → Line) × Option ℕ → Result ((Axis → Line) × Option ℕ) ℕ
told x = Ok x

pub returns : goal.returns
unfolding told
returns c =
    let q = craft_ok c.args.craft c.in_ok-craft.craft.number c.in_ok-craft.ensures in
    ap told (c.leg.ensures ∙ ap (λ (n : ℕ). leg_asked (routes_of c.args.self.now.routes n) (time_of c.args.t)) q.1) ∙ leg_in_range c.args.craft _ q.0
