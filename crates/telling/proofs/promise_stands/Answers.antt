use Rattle.telling.proofs.Promises.{promise}
use Rattle.telling.proofs.promise_stands.Goals as goal

pub returns : goal.returns
returns c = promise
