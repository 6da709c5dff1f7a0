use Rattle.std.proofs.Common.{sym, refl, rules}
use Rattle.rules.specs.Stamps.{at}
use Rattle.times.specs.Of.{time_of, moment_of}
use Rattle.geometry.specs.Of.{sizes, box_of}
use Rattle.model.specs.Calls.{entering}
use Rattle.hall.specs.Of.{state_of}
use Rattle.hall.proofs.Room.{entering_fits, fits_alike, wrote_alike}
use Rattle.hall.proofs.Rows.{change_wrote}
use Rattle.hall.proofs.Slips.{on_slip, from_slip}
use Rattle.hall.proofs.hall.Hall.enter.Goals as goal

pub enter-requires : goal.enter-requires
enter-requires g c =
    let z = state_of g.B.FlightBook.meaning g.Q.EventQueue.holds c.args.self.now in
    let t = time_of c.args.q.now.at in
    let h = c.args.half in
    let b = sizes h.0 h.1 h.2 in
    let e = c.in_ok-craft.ensures in
    on_slip _ _ c.new-slip.result c.args.slip.now c.new-slip.ensures.lines c.new-slip.ensures.used
    (fits_alike c.args.craft c.in_ok-craft.craft.number b (box_of c.in_ok-craft.sizes) (at t) (moment_of c.at.result) z.hall c.args.slip.now e.entering.0 e.entering.1 c.at.ensures
    (entering_fits t c.args.craft b z c.args.slip.now (sym e.refused)))

pub returns : goal.returns
returns g c =
    let z = state_of g.B.FlightBook.meaning g.Q.EventQueue.holds c.args.self.now in
    let t = time_of c.args.q.now.at in
    let h = c.args.half in
    let b = sizes h.0 h.1 h.2 in
    let e = c.in_ok-craft.ensures in
    change_wrote t (entering c.args.craft b) z _ c.args.slip.now _ _ (sym e.refused)
    (wrote_alike c.args.craft c.in_ok-craft.craft.number b (box_of c.in_ok-craft.sizes) (at t) (moment_of c.at.result) z.hall _ c.args.slip.now _ _ e.entering.0 e.entering.1 c.at.ensures
    (from_slip _ _ _ c.new-slip.result c.enter.new.slip c.args.slip.now _ _ c.new-slip.ensures.lines c.new-slip.ensures.used (search rules) refl c.enter.ensures))
