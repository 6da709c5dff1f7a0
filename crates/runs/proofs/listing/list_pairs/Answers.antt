use Rattle.std.proofs.Common.{◌≤◌, length, arith}
use Rattle.model.specs.Halls.{Hall}
use Rattle.model.specs.Refusals.{pairs}
use Rattle.floor.specs.Of.{hall_of}
use Rattle.runs.proofs.Rows.{rows_room, rows_put, rows_done}
use Rattle.runs.proofs.listing.list_pairs.Goals as goal

pub list_row-n-requires : goal.list_row-n-requires
list_row-n-requires g c =
    let m : Hall = hall_of g.B.FlightBook.meaning g.Q.EventQueue.holds c.args.floor.now in
    let h = rows_room m c.loop-c.c (omega arith) in
    let i = c.loop-c.invariant.0 in
    omega arith

pub loop-c-preserved : goal.loop-c-preserved
loop-c-preserved g c =
    let m : Hall = hall_of g.B.FlightBook.meaning g.Q.EventQueue.holds c.args.floor.now in
    let fits : length (pairs m) ≤ length c.args.list.now = omega arith in
    rows_put m c.loop-c.c c.loop-c.n _ c.loop-c.list c.args.list.now _ (omega arith) fits c.loop-c.invariant.0 c.loop-c.invariant.1 c.list_row-n.ensures.list c.list_row-n.ensures.count

pub returns : goal.returns
returns g c =
    let m : Hall = hall_of g.B.FlightBook.meaning g.Q.EventQueue.holds c.args.floor.now in
    rows_done m c.loop-c.c c.loop-c.n c.loop-c.list c.args.list.now (omega arith) c.loop-c.invariant.0 c.loop-c.invariant.1
