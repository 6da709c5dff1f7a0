use Rattle.std.proofs.Common.{◌≡◌, ℕ, ◌/◌, ◌<◌, ◌≤◌, length}
use Rattle.calendar_queue.specs.Crowns.{node, MatchedBut}
use Rattle.calendar_queue.proofs.crown.play.replay.Given as goal

abbrev pub invariant-loop-at : goal.invariant-loop-at
invariant-loop-at l = record {
  low : 0 < l.at;
  high : l.at < 256;
  sized : length l.nodes ≡ 256;
  leaves : (k : ℕ) → 128 ≤ k → node l.nodes k ≡ node l.initial.nodes k;
  matched : MatchedBut l.initial.nodes (l.initial.at / 2) → MatchedBut l.nodes (l.at / 2);
}

abbrev pub decreases-loop-at : goal.decreases-loop-at
decreases-loop-at l = l.at
