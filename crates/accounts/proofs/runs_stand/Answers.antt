use Rattle.accounts.proofs.Ends.{runs_end}
use Rattle.accounts.proofs.runs_stand.Goals as goal

pub returns : goal.returns
returns c = runs_end
