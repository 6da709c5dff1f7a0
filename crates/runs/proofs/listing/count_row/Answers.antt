use Rattle.std.proofs.Common.{ℕ, ◌+◌, List, length, sym, ap, ◌∙◌, arith}
use Rattle.model.specs.Halls.{Hall}
use Rattle.floor.specs.Of.{hall_of}
use Rattle.runs.specs.Listing.{row_with}
use Rattle.runs.proofs.Rows.{row_short, row_miss, long_hit, all_below}
use Rattle.runs.proofs.listing.count_row.Goals as goal
use Rattle.runs.proofs.listing.count_row.Goals.{then-is_listed, else-is_listed}

pub overflow_add-n : goal.overflow_add-n
overflow_add-n g c =
    let m : Hall = hall_of g.B.FlightBook.meaning g.Q.EventQueue.holds c.args.floor.now in
    let h = row_short m c.args.c.number c.loop-d.d in
    let i = c.loop-d.invariant in
    omega arith

pub loop-d-preserved : goal.loop-d-preserved
loop-d-preserved g c =
    let m : Hall = hall_of g.B.FlightBook.meaning g.Q.EventQueue.holds c.args.floor.now in
    elim c.if-is_listed.branch [
      | then-is_listed w ↦ w.n-is ∙ ap (λ (x : ℕ). x + 1) c.loop-d.invariant ∙ sym (long_hit m c.args.c.number c.loop-d.d (sym c.is_listed.ensures ∙ w.if-is_listed.true))
      | else-is_listed w ↦ w.n-is ∙ c.loop-d.invariant ∙ sym (ap length (row_miss m c.args.c.number c.loop-d.d (sym c.is_listed.ensures ∙ w.if-is_listed.false)))
    ]

pub returns : goal.returns
returns g c =
    let m : Hall = hall_of g.B.FlightBook.meaning g.Q.EventQueue.holds c.args.floor.now in
    let h = row_short m c.args.c.number c.loop-d.d in
    let i = c.loop-d.invariant in
    record {
      value = i ∙ ap (λ (xs : List ℕ). length (row_with m c.args.c.number xs)) (all_below c.loop-d.d (omega arith));
      most = omega arith;
    }
