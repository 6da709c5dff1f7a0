use Rattle.std.proofs.Common.{◌-◌}
use Rattle.heap_queue.specs.Heaps.{Below, Went}
use Rattle.heap_queue.proofs.Levels.{level}
use Rattle.heap_queue.proofs.tree.Tree.sink.Given as goal

abbrev pub invariant-loop-child : goal.invariant-loop-child
invariant-loop-child l = Went l.initial.self l.self l.fn.from l.gap × Below l.self l.gap

-- so it turns at most as often as the heap has levels below the gap
abbrev pub decreases-loop-child : goal.decreases-loop-child
decreases-loop-child l = 14 - level l.gap.at
