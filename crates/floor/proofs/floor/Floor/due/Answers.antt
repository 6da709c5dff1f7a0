use Rattle.std.proofs.Common.{Some, None, ap, ◌∙◌}
use Rattle.queues.specs.Laws.{Held}
use Rattle.times.specs.Of.{time_of}
use Rattle.floor.specs.Of.{due_told}
use Rattle.floor.proofs.Dues.{due_is, due_below}
use Rattle.floor.proofs.floor.Floor.due.Goals as goal

pub returns-in_err-number : goal.returns-in_err-number
returns-in_err-number g c = ap due_told c.from_residual.ensures ∙ due_is (g.Q.EventQueue.holds c.args.self.now.queue) (time_of c.args.goal) c.first.result None c.first.ensures c.in_err-number.ensures

pub returns : goal.returns
returns g c = due_is (g.Q.EventQueue.holds c.args.self.now.queue) (time_of c.args.goal) c.first.result (Some (c.in_ok-number.number, c.in_ok-number.moment)) c.first.ensures c.in_ok-number.ensures

pub invariant_of-result : goal.invariant_of-result
invariant_of-result g c =
    let q = c.args.self.now.queue in
    let h : Held (g.Q.EventQueue.holds q) = record { within = g.met.Q.EventQueue.within q; proper = λ k m e. (g.met.Q.EventQueue.usual q k m e).proper } in
    record { inside = due_below (g.Q.EventQueue.holds q) h (time_of c.args.goal) c.first.result (Some (c.in_ok-number.number, c.in_ok-number.moment)) c.first.ensures c.in_ok-number.ensures }
