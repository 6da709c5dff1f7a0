-- What the queue holds.
use Rattle.std.specs.Prelude.{ℕ, Option}
use Rattle.rules.specs.Stamps.{Stamp}
use Rattle.heap_queue.specs.declared.queue.HeapQueue.{HeapQueue}
use Rattle.heap_queue.specs.Heaps.{held}

abbrev pub holds_of : HeapQueue → ℕ → Option Stamp
holds_of q = held q.tree
