use Rattle.std.proofs.Common.{◌≡◌, ◌+◌, ◌≤◌, drop}
use Rattle.console_read.proofs.Counts.{begin}
use Rattle.console_read.proofs.legs.count.Given as goal

-- those that began, and those that begin later, are all
abbrev pub invariant-loop-byte : goal.invariant-loop-byte
invariant-loop-byte l = (l.n + begin l.last (drop l.byte-index l.text) ≡ begin 32 l.text) × (l.n ≤ l.byte-index)
