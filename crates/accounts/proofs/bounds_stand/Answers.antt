use Rattle.accounts.proofs.Counts.{enter_within, leave_within, change_within, fire_within}
use Rattle.accounts.proofs.bounds_stand.Goals as goal

pub returns : goal.returns
returns c = record { entering = enter_within; leaving = leave_within; changing = change_within; firing = fire_within }
