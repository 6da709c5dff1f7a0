use Rattle.std.proofs.Common.{◌∙◌, arith, length-set}
use Rattle.plans.proofs.Tables.{push_kept, push_counted}
use Rattle.plans.proofs.plan.Plan.push_leg.Goals as goal

pub returns-then-self-lt8 : goal.returns-then-self-lt8
returns-then-self-lt8 c = push_kept c.args.self.now c.args.leg (length-set c.args.self.now.legs c.args.self.now.count c.args.leg ∙ c.args.self.now.table) c.if-self-lt8.true

pub returns-then-self-lt255 : goal.returns-then-self-lt255
returns-then-self-lt255 c = push_counted c.args.self.now c.args.leg _ c.args.self.now.table c.if-self-lt8.false (omega arith)

pub returns-else-self-lt255 : goal.returns-else-self-lt255
returns-else-self-lt255 c = push_counted c.args.self.now c.args.leg _ c.args.self.now.table c.if-self-lt8.false (omega arith)
