use Rattle.std.proofs.Common.{◌+◌, length, sym, ap, ◌∙◌, arith}
use Rattle.model.specs.Halls.{Hall}
use Rattle.floor.specs.Of.{hall_of}
use Rattle.runs.proofs.Rows.{rows_longer, pairs_rows}
use Rattle.runs.proofs.listing.count_pairs.Goals as goal

pub loop-c-preserved : goal.loop-c-preserved
loop-c-preserved g c =
    let m : Hall = hall_of g.B.FlightBook.meaning g.Q.EventQueue.holds c.args.floor.now in
    let i = c.loop-c.invariant.1 in (
      (λ t. c.loop-c.invariant.0 t + c.count_row-n.ensures.value t) ∙ sym (rows_longer m c.loop-c.c),
      omega arith,
    )

pub returns : goal.returns
returns g c =
    let m : Hall = hall_of g.B.FlightBook.meaning g.Q.EventQueue.holds c.args.floor.now in
    c.loop-c.invariant.0 ∙ ap length (pairs_rows m c.loop-c.c (omega arith))
