use Rattle.std.proofs.Common.{◌∙◌, ap₂, arith}
use Rattle.std.specs.Option.{option_or}
use Rattle.plans.proofs.Tables.{break_or_end, starts_same}
use Rattle.plans.proofs.route.Route.next_break.Goals as goal

pub returns : goal.returns
returns c =
    c.or.ensures
    ∙ ap₂ option_or (starts_same c.args.i _ _ _ _ c.first_start.ensures (omega arith) c.kept_legs.ensures) c.then_some.ensures
    ∙ break_or_end c.args.i _ c.args.self.now.plan.end
