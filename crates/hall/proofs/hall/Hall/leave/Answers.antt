use Rattle.std.proofs.Common.{ℕ, sym, subst}
use Rattle.times.specs.Of.{time_of}
use Rattle.model.specs.Moves.{leave}
use Rattle.floor_laws.specs.Writing.{Fits}
use Rattle.hall.specs.Of.{state_of}
use Rattle.hall.proofs.Room.{leaving_fits}
use Rattle.hall.proofs.Slips.{on_slip}
use Rattle.hall.proofs.hall.Hall.leave.Goals as goal

pub leave-requires : goal.leave-requires
leave-requires g c =
    let z = state_of g.B.FlightBook.meaning g.Q.EventQueue.holds c.args.self.now in
    let e = c.in_ok-craft.ensures in
    on_slip _ _ c.new-slip.result c.args.slip.now c.new-slip.ensures.lines c.new-slip.ensures.used
    (subst (λ (i : ℕ). Fits (leave i) 0 z.hall c.args.slip.now) (sym e.craft) (leaving_fits (time_of c.args.q.now.at) c.args.craft z c.args.slip.now c.args.self.now.floor.tables.few (sym e.refused)))
