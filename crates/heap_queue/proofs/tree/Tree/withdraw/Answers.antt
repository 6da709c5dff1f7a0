use Rattle.std.proofs.Common.{◌∙◌}
use Rattle.heap_queue.specs.Gaps.{put_same}
use Rattle.heap_queue.proofs.tree.Tree.withdraw.Goals as goal

pub returns-in-Some-clause-held : goal.returns-in-Some-clause-held
returns-in-Some-clause-held c = c.settle.ensures.held ∙ put_same _ _ _ c.in-Some.ensures.left.last ∙ c.in-Some.ensures.held
