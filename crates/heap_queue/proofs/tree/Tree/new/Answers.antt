use Rattle.std.proofs.Common.{refl}
use Rattle.heap_queue.proofs.Places.{empty}
use Rattle.heap_queue.proofs.tree.Tree.new.Goals as goal

pub returns : goal.returns
returns c = empty _ refl refl
