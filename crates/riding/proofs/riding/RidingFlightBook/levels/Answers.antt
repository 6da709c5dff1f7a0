use Rattle.std.proofs.Common.{arith}
use Rattle.riding.proofs.Legs.{few_levels}
use Rattle.riding.proofs.riding.RidingFlightBook.levels.Goals as goal

pub overflow_add-result : goal.overflow_add-result
overflow_add-result g c =
    let w = g.met.B.FlightBook.lawful c.args.self.now.below in
    let f = few_levels (g.B.FlightBook.meaning c.args.self.now.below).levels (omega (arith, w.low, w.high)) in
    omega (arith, f, c.levels-levels.ensures)
