use Rattle.heap_queue.specs.Gaps.{went_on, settled, settled_went}
use Rattle.heap_queue.proofs.tree.Tree.settle.Goals as goal

pub returns : goal.returns
returns c =
    let t = c.rise-risen.new.self in
    let u = c.sink-sunk.new.self in
    let v = c.fill.new.self in
    let sunk = c.sink-sunk.result in
    let went = c.sink-sunk.ensures.went in
    settled_went c.args.self.now u v c.args.gap sunk
    (went_on c.args.self.now t u c.args.gap c.rise-risen.result sunk c.rise-risen.ensures.went went)
    (settled u v sunk went.gapped c.sink-sunk.ensures.below c.sink-sunk.ensures.above c.fill.ensures)
