use Rattle.plans.proofs.Routed.{standing_asked}
use Rattle.plans.proofs.answer.LegAnswer.unplanned.Goals as goal

pub returns : goal.returns
returns c = standing_asked
