use Rattle.plans.proofs.Straight.{line_holds}
use Rattle.plans.proofs.Breaks.{first_after_least}
use Rattle.plans.proofs.laws.paths_stand.Goals as goal

pub returns : goal.returns
returns c = record { line = line_holds; first = first_after_least }
