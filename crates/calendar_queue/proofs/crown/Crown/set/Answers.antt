use Rattle.std.proofs.Common.{◌+◌, arith}
use Rattle.calendar_queue.specs.Matches.{leaf_set}
use Rattle.calendar_queue.proofs.crown.Crown.set.Goals as goal

pub invariant_of-self-clause-matched : goal.invariant_of-self-clause-matched
invariant_of-self-clause-matched c =
    let s = c.args.self.now in
    c.replay.ensures.matched (leaf_set s.nodes (128 + c.from-leaf.result) c.args.found (omega arith) s.matched)
