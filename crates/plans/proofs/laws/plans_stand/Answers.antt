use Rattle.plans.proofs.Flown.{plans_kept, standing_kept}
use Rattle.plans.proofs.laws.plans_stand.Goals as goal

pub returns : goal.returns
returns c = record { plans = plans_kept; standing = standing_kept }
