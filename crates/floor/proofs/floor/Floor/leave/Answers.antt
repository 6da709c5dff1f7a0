use Rattle.std.proofs.Common.{ap, ◌∙◌}
use Rattle.floor.specs.Of.{joined}
use Rattle.floor.proofs.Firing.{leave_wrote}
use Rattle.floor.proofs.floor.Floor.leave.Goals as goal

pub returns : goal.returns
returns g c = record {
  wrote = leave_wrote c.args.c.number c.args.slip.now.used _ _ c.requires _ _ _ c.on_axes.ensures.wrote c.leg_slot_of.result.number c.leg_slot_of.ensures _ _ _ _ c.take_away.ensures.wrote
      (ap (joined (g.B.FlightBook.meaning c.take_away.new.self.book) (g.Q.EventQueue.holds c.take_away.new.self.queue)) c.set_craft.ensures);
  same = c.take_away.ensures.same ∙ c.on_axes.ensures.same;
}
