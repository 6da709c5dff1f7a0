use Rattle.accounts.proofs.Accounts.{accounts_hold}
use Rattle.accounts.proofs.accounts_stand.Goals as goal

pub returns : goal.returns
returns c = accounts_hold
