use Rattle.accounts.proofs.Agrees.{histories_agree}
use Rattle.accounts.proofs.histories_stand.Goals as goal

pub returns : goal.returns
returns c = histories_agree
