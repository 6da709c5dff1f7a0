use Rattle.std.proofs.Common.{ℕ, sym, refl, ap, rules}
use Rattle.rules.specs.Books.{ride}
use Rattle.rules.specs.Stamps.{at}
use Rattle.times.specs.Of.{time_of, moment_of}
use Rattle.model.specs.Calls.{booking}
use Rattle.hall.specs.Of.{state_of}
use Rattle.hall.proofs.Room.{booking_fits, change_fits_alike, change_wrote_alike}
use Rattle.hall.proofs.Rows.{change_wrote}
use Rattle.hall.proofs.Slips.{on_slip, from_slip}
use Rattle.hall.proofs.hall.Hall.ride.Goals as goal

pub ride-requires : goal.ride-requires
ride-requires g c =
    let z = state_of g.B.FlightBook.meaning g.Q.EventQueue.holds c.args.self.now in
    let t = time_of c.args.q.now.at in
    let x = ride c.args.craft c.args.level c.args.carrier in
    let e = c.in_ok-craft.ensures in
    on_slip _ _ c.new-slip.result c.args.slip.now c.new-slip.ensures.lines c.new-slip.ensures.used
    (change_fits_alike x (ride c.in_ok-craft.craft.number c.args.level c.args.carrier) (at t) (moment_of c.at.result) z.hall c.args.slip.now (ap (λ (i : ℕ). ride i c.args.level c.args.carrier) e.craft) c.at.ensures
    (booking_fits t x z c.args.slip.now (sym e.refused)))

pub returns : goal.returns
returns g c =
    let z = state_of g.B.FlightBook.meaning g.Q.EventQueue.holds c.args.self.now in
    let t = time_of c.args.q.now.at in
    let x = ride c.args.craft c.args.level c.args.carrier in
    let e = c.in_ok-craft.ensures in
    change_wrote t (booking x) z _ c.args.slip.now _ _ (sym e.refused)
    (change_wrote_alike x (ride c.in_ok-craft.craft.number c.args.level c.args.carrier) (at t) (moment_of c.at.result) z.hall _ c.args.slip.now _ _ (ap (λ (i : ℕ). ride i c.args.level c.args.carrier) e.craft) c.at.ensures
    (from_slip _ _ _ c.new-slip.result c.ride.new.slip c.args.slip.now _ _ c.new-slip.ensures.lines c.new-slip.ensures.used (search rules) refl c.ride.ensures))
