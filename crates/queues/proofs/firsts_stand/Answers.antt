use Rattle.queues.proofs.Firsts.{soonest_first, firsts_right, empty_right}
use Rattle.queues.proofs.firsts_stand.Goals as goal

pub returns : goal.returns
returns c = record { scan = soonest_first; firsts = firsts_right; empty = empty_right }
