use Rattle.std.proofs.Common.{refl}
use Rattle.times.specs.Of.{moment_of, time_of}
use Rattle.model.specs.Moves.{craft_of}
use Rattle.floor.specs.Of.{hall_of}
use Rattle.floor.proofs.Firing.{leg_lines, leg_next, break_soon, read_firing, leg_fits, leg_wrote}
use Rattle.floor.proofs.floor.Floor.fire_leg.Goals as goal

pub break_moment-requires : goal.break_moment-requires
break_moment-requires g c = break_soon (g.B.FlightBook.meaning c.args.self.now.book) c.args.c.number (time_of c.args.k.time) c.in-Ok.legs.next (g.met.B.FlightBook.lawful c.args.self.now.book) (leg_next (g.B.FlightBook.meaning c.args.self.now.book) c.args.c.number (time_of c.args.k.time) c.args.c.inside c.in-Ok.legs c.in-Ok.ensures)

pub read_then-requires : goal.read_then-requires
read_then-requires g c = leg_fits c.args.c.number c.args.slip.now.used (moment_of c.args.k) c.in-Ok.legs.next _ c.break_moment.ensures _ _ _ (read_firing _ _ _ _ c.args.c.number (moment_of c.args.k) (craft_of c.args.c.number (hall_of g.B.FlightBook.meaning g.Q.EventQueue.holds c.args.self.now)).box _ (leg_lines (g.B.FlightBook.meaning c.args.self.now.book) c.args.c.number (time_of c.args.k.time) c.args.c.inside c.in-Ok.legs c.in-Ok.ensures) refl c.turn.ensures) (leg_next (g.B.FlightBook.meaning c.args.self.now.book) c.args.c.number (time_of c.args.k.time) c.args.c.inside c.in-Ok.legs c.in-Ok.ensures) c.requires

pub returns : goal.returns
returns g c = record { wrote = leg_wrote c.args.c.number c.args.slip.now.used (moment_of c.args.k) c.in-Ok.legs.next _ c.break_moment.ensures _ _ _ (read_firing _ _ _ _ c.args.c.number (moment_of c.args.k) (craft_of c.args.c.number (hall_of g.B.FlightBook.meaning g.Q.EventQueue.holds c.args.self.now)).box _ (leg_lines (g.B.FlightBook.meaning c.args.self.now.book) c.args.c.number (time_of c.args.k.time) c.args.c.inside c.in-Ok.legs c.in-Ok.ensures) refl c.turn.ensures) (leg_next (g.B.FlightBook.meaning c.args.self.now.book) c.args.c.number (time_of c.args.k.time) c.args.c.inside c.in-Ok.legs c.in-Ok.ensures) _ _ _ c.read_then.ensures.wrote; same = c.read_then.ensures.same }
