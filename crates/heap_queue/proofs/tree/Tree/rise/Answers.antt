use Rattle.std.proofs.Common.{ℕ, ◌<◌, sym, subst, arith}
use Rattle.queues.specs.declared.entry.Entry.{Entry}
use Rattle.heap_queue.specs.Heaps.{Filled}
use Rattle.heap_queue.proofs.Levels.{level, level_up}
use Rattle.heap_queue.specs.Gaps.{went_up, went_on}
use Rattle.heap_queue.proofs.tree.Tree.rise.Goals as goal

pub loop-up-preserved : goal.loop-up-preserved
loop-up-preserved c =
    let t = c.loop-up.self in
    let u = c.fill.new.self in
    let gap = c.loop-up.gap in
    let went = c.loop-up.invariant in
    went_on c.args.self.now t u c.args.from gap _ went
    (went_up t u gap went.gapped c.in-Some.up c.in-Some.ensures (subst (λ (x : Entry). Filled t u gap.at x) c.entry.ensures c.fill.ensures))

pub loop-up-smaller : goal.loop-up-smaller
loop-up-smaller c =
    let found = c.in-Some.ensures in
    let gap = c.loop-up.gap in
    let small : gap.at < 12352 = omega (arith, c.loop-up.invariant.gapped.index.inside, c.loop-up.self.room) in
    subst (λ (x : ℕ). level x < level gap.at) (sym found.parent) (level_up gap.at found.below small)
