use Rattle.geometry.specs.Of.{box_of}
use Rattle.times.specs.Of.{moment_of, time_of}
use Rattle.floor.proofs.Firing.{leg_lines, leg_next, break_soon, read_entering, enter_fits, enter_wrote}
use Rattle.floor.proofs.floor.Floor.enter.Goals as goal

pub break_moment-requires : goal.break_moment-requires
break_moment-requires g c = break_soon (g.B.FlightBook.meaning c.args.self.now.book) c.args.c.number (time_of c.args.k.time) c.in-Ok.legs.next (g.met.B.FlightBook.lawful c.args.self.now.book) (leg_next (g.B.FlightBook.meaning c.args.self.now.book) c.args.c.number (time_of c.args.k.time) c.args.c.inside c.in-Ok.legs c.in-Ok.ensures)

pub read_then-requires : goal.read_then-requires
read_then-requires g c = enter_fits c.args.c.number c.args.slip.now.used (box_of c.args.half) (moment_of c.args.k) c.in-Ok.legs.next _ c.break_moment.ensures _ _ _ (read_entering _ _ _ _ c.args.c.number (moment_of c.args.k) (box_of c.args.half) _ (leg_lines (g.B.FlightBook.meaning c.args.self.now.book) c.args.c.number (time_of c.args.k.time) c.args.c.inside c.in-Ok.legs c.in-Ok.ensures) _ c.new.ensures c.set_craft.ensures) (leg_next (g.B.FlightBook.meaning c.args.self.now.book) c.args.c.number (time_of c.args.k.time) c.args.c.inside c.in-Ok.legs c.in-Ok.ensures) c.requires

pub returns : goal.returns
returns g c = record { wrote = enter_wrote c.args.c.number c.args.slip.now.used (box_of c.args.half) (moment_of c.args.k) c.in-Ok.legs.next _ c.break_moment.ensures _ _ _ (read_entering _ _ _ _ c.args.c.number (moment_of c.args.k) (box_of c.args.half) _ (leg_lines (g.B.FlightBook.meaning c.args.self.now.book) c.args.c.number (time_of c.args.k.time) c.args.c.inside c.in-Ok.legs c.in-Ok.ensures) _ c.new.ensures c.set_craft.ensures) (leg_next (g.B.FlightBook.meaning c.args.self.now.book) c.args.c.number (time_of c.args.k.time) c.args.c.inside c.in-Ok.legs c.in-Ok.ensures) _ _ _ c.read_then.ensures.wrote; same = c.read_then.ensures.same }
