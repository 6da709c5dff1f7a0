use Rattle.std.proofs.Common.{sym, ◌∙◌}
use Rattle.times.specs.Of.{time_of}
use Rattle.hall.specs.Of.{state_of}
use Rattle.hall.proofs.Refused.{passed}
use Rattle.hall.proofs.Clocks.{before_of, set_past, set_none}
use Rattle.hall.proofs.hall.Hall.allows_set.Goals as goal

pub returns-then-lt-clause-refused : goal.returns-then-lt-clause-refused
returns-then-lt-clause-refused g c =
    let z = state_of g.B.FlightBook.meaning g.Q.EventQueue.holds c.args.self.now in
    sym (set_past (time_of c.args.q.now.at) c.args.n c.args.d z (time_of c.in_ok-goal.goal) (passed 1 _ (c.in_ok-knows.ensures)) c.in_ok-goal.ensures (sym (before_of c.in_ok-goal.goal c.args.q.now.at) ∙ sym c.lt.ensures ∙ c.if-lt.true))

pub returns-clause-refused : goal.returns-clause-refused
returns-clause-refused g c =
    let z = state_of g.B.FlightBook.meaning g.Q.EventQueue.holds c.args.self.now in
    sym (set_none (time_of c.args.q.now.at) c.args.n c.args.d z (time_of c.in_ok-goal.goal) (passed 1 _ (c.in_ok-knows.ensures)) c.in_ok-goal.ensures (sym (before_of c.in_ok-goal.goal c.args.q.now.at) ∙ sym c.lt.ensures ∙ c.if-lt.false))
