use Rattle.heap_queue.specs.Heaps.{Went}
use Rattle.heap_queue.proofs.Levels.{level}
use Rattle.heap_queue.proofs.tree.Tree.rise.Given as goal

abbrev pub invariant-loop-up : goal.invariant-loop-up
invariant-loop-up l = Went l.initial.self l.self l.fn.from l.gap

-- so it turns at most as often as the gap has levels above it
abbrev pub decreases-loop-up : goal.decreases-loop-up
decreases-loop-up l = level l.gap.at
