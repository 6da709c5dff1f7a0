use Rattle.std.proofs.Common.{◌/◌, ◌<◌, None, ◌∙◌, arith}
use Rattle.std.proofs.lemmas.List.{length-set, get_or-set_other}
use Rattle.calendar_queue.specs.Matches.{replayed, all_matched}
use Rattle.calendar_queue.proofs.crown.play.replay.Goals as goal

pub loop-at-preserved : goal.loop-at-preserved
loop-at-preserved c =
    let ns = c.loop-at.nodes in
    let j = c.loop-at.at / 2 in
    let inv = c.loop-at.invariant in
    let p : 0 < c.loop-at.at / 2 = omega arith in
    let l : c.loop-at.at / 2 < 128 = omega arith in
    record {
      low = p;
      high = omega arith;
      sized = length-set c.loop-at.nodes _ _ ∙ inv.sized;
      leaves = λ k h. get_or-set_other c.loop-at.nodes (c.loop-at.at / 2) k _ None (λ e. omega arith) ∙ inv.leaves k h;
      matched = λ m. replayed c.loop-at.nodes (c.loop-at.at / 2) _ _ _ inv.sized p l c.index-nodes-at.is c.index-nodes-at-in-loop-at.is c.better-best.ensures (inv.matched m);
    }

pub returns : goal.returns
returns c =
    record {
      leaves = c.loop-at.invariant.leaves;
      matched = λ m. all_matched c.loop-at.nodes (c.loop-at.at / 2) (omega arith) (c.loop-at.invariant.matched m);
    }
