use Rattle.std.proofs.Common.{sym, refl}
use Rattle.heap_queue.proofs.Places.{seat_old, seat_new}
use Rattle.heap_queue.proofs.tree.Tree.seat.Goals as goal

pub returns-in-Some : goal.returns-in-Some
returns-in-Some c = seat_old c.args.self.now c.requires c.args.slot.number c.in-Some.at (sym c.in-Some.ensures)

pub returns : goal.returns
returns c = seat_new c.args.self.now c.requires _ refl c.args.slot.number refl (sym c.in_default.ensures) refl
