use Rattle.std.proofs.Common.{◌+◌, ◌*◌, ◌<◌, sym, ◌∙◌, arith}
use Rattle.queues.specs.EntryOrder.{less}
use Rattle.heap_queue.specs.Gaps.{carry, left_least}
use Rattle.heap_queue.proofs.tree.Tree.least_child.Goals as goal
use Rattle.heap_queue.proofs.tree.Tree.least_child.Goals.{else-right-self-via-then-right-self+else-lt, else-right-self-via-else-right-self}

pub returns-else-right-self : goal.returns-else-right-self
returns-else-right-self c =
    let t = c.args.self.now in
    let gap = c.args.gap in
    left_least t gap c.requires
    (elim c.else-right-self.branch [
      | else-right-self-via-then-right-self+else-lt w ↦ λ (h : 2 * gap + 1 + 1 < t.len). carry (sym w.entry.ensures) (sym w.entry-then-right-self.ensures) (sym (less w.entry.result w.entry-then-right-self.result) ∙ sym w.if-lt.ensures)
      | else-right-self-via-else-right-self w ↦ λ (h : 2 * gap + 1 + 1 < t.len). absurd (omega arith)
    ])
