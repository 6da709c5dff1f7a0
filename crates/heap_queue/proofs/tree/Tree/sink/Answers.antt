use Rattle.std.proofs.Common.{ℕ, ◌-◌, ◌<◌, subst, arith}
use Rattle.queues.specs.declared.entry.Entry.{Entry}
use Rattle.heap_queue.specs.Heaps.{Filled}
use Rattle.heap_queue.proofs.Levels.{level, level_up, level_small}
use Rattle.heap_queue.specs.Gaps.{went_down, below_down, went_on}
use Rattle.heap_queue.proofs.tree.Tree.sink.Goals as goal

pub loop-child-preserved : goal.loop-child-preserved
loop-child-preserved c =
    let t = c.loop-child.self in
    let u = c.fill.new.self in
    let gap = c.loop-child.gap in
    let went = c.loop-child.invariant.0 in
    let found = c.in-Some.ensures in
    let filled = subst (λ (x : Entry). Filled t u gap.at x) c.entry.ensures c.fill.ensures in (
      went_on c.args.self.now t u c.args.from gap _ went (went_down t u gap went.gapped c.in-Some.child found filled),
      below_down t u gap went.gapped c.in-Some.child found filled,
    )

pub loop-child-smaller : goal.loop-child-smaller
loop-child-smaller c =
    let child = c.in-Some.child in
    let gap = c.loop-child.gap in
    let ch = c.in-Some.ensures.child in
    let small : child < 12352 = omega (arith, ch.inside, c.loop-child.self.room) in
    let lower : level gap.at < level child = subst (λ (x : ℕ). level x < level child) ch.parent (level_up child ch.under small) in
    let most = level_small child in
    let less : 14 - level child < 14 - level gap.at = omega arith in
    less
