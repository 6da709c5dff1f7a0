use Rattle.std.proofs.Common.{ℕ, ◌+◌, List, length, set, sym, ap, ◌∙◌, add_assoc, arith}
use Rattle.model.specs.Halls.{Hall}
use Rattle.floor_laws.specs.Writing.{written}
use Rattle.floor.specs.Of.{hall_of}
use Rattle.runs.specs.Listing.{row_with}
use Rattle.runs.proofs.Rows.{row_room, row_miss, row_put, long_hit, all_below}
use Rattle.runs.proofs.listing.list_row.Goals as goal
use Rattle.runs.proofs.listing.list_row.Goals.{then-is_listed, else-is_listed}

pub bounds-list-end : goal.bounds-list-end
bounds-list-end g c =
    let m : Hall = hall_of g.B.FlightBook.meaning g.Q.EventQueue.holds c.args.floor.now in
    let h = row_room m c.args.c.number c.loop-d.d (omega arith) (sym c.is_listed.ensures ∙ c.if-is_listed.true) in
    let i = c.loop-d.invariant.0 in
    omega arith

pub loop-d-preserved : goal.loop-d-preserved
loop-d-preserved g c =
    let m : Hall = hall_of g.B.FlightBook.meaning g.Q.EventQueue.holds c.args.floor.now in
    elim c.if-is_listed.branch [
      | then-is_listed w ↦
          let e = sym c.is_listed.ensures ∙ w.if-is_listed.true in (
            w.end-is ∙ ap (λ (x : ℕ). x + 1) c.loop-d.invariant.0 ∙ add_assoc c.args.n _ 1 ∙ ap (λ (x : ℕ). c.args.n + x) (sym (long_hit m c.args.c.number c.loop-d.d e)),
            w.list-is ∙ ap (set c.loop-d.list c.loop-d.end) w.entry_of.ensures ∙ row_put m c.args.c.number c.args.n c.loop-d.end c.loop-d.d c.loop-d.list c.args.list.now e (omega arith) c.requires c.loop-d.invariant.0 c.loop-d.invariant.1,
          )
      | else-is_listed w ↦
          let e = row_miss m c.args.c.number c.loop-d.d (sym c.is_listed.ensures ∙ w.if-is_listed.false) in (
            w.end-is ∙ c.loop-d.invariant.0 ∙ ap (λ (xs : List ℕ). c.args.n + length xs) (sym e),
            w.list-is ∙ c.loop-d.invariant.1 ∙ ap (λ (xs : List ℕ). written c.args.n xs c.args.list.now) (sym e),
          )
    ]

pub returns : goal.returns
returns g c =
    let m : Hall = hall_of g.B.FlightBook.meaning g.Q.EventQueue.holds c.args.floor.now in
    let e = all_below c.loop-d.d (omega arith) in
    record {
      list = c.loop-d.invariant.1 ∙ ap (λ (xs : List ℕ). written c.args.n (row_with m c.args.c.number xs) c.args.list.now) e;
      count = c.loop-d.invariant.0 ∙ ap (λ (xs : List ℕ). c.args.n + length (row_with m c.args.c.number xs)) e;
    }
