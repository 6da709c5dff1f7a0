use Rattle.std.proofs.Common.{ℕ, ◌<◌, ◌≤◌, sym, refl, ap, ◌∙◌, subst}
use Rattle.queues.proofs.Changed.{held_by}
use Rattle.model.specs.Halls.{quiet}
use Rattle.telling.proofs.Promises.{promise}
use Rattle.hall.proofs.Shows.{small_show}
use Rattle.hall.proofs.Clocks.{open_scale, open_holds, open_none, opened_is}
use Rattle.hall.proofs.hall.Hall.open.Goals as goal

pub returns-then-scale-gt8 : goal.returns-then-scale-gt8
returns-then-scale-gt8 g c = record {
  opening = (open_scale (g.B.FlightBook.meaning c.args.book) (g.Q.EventQueue.holds c.args.queue) (subst (λ (k : ℕ). 8 < k) c.scale.ensures c.if-scale-gt8.true), refl, refl);
  promise = promise;
  show = small_show;
}

pub returns-then-not-is_empty : goal.returns-then-not-is_empty
returns-then-not-is_empty g c = record {
  opening = (open_holds (g.B.FlightBook.meaning c.args.book) (g.Q.EventQueue.holds c.args.queue) (subst (λ (k : ℕ). k ≤ 8) c.scale.ensures c.if-scale-gt8.false) (sym c.is_empty.ensures ∙ c.if-not-is_empty.true), refl, refl);
  promise = promise;
  show = small_show;
}

pub returns : goal.returns
returns g c =
    let e = sym c.is_empty.ensures ∙ c.if-not-is_empty.false in
    let held = held_by (g.Q.EventQueue.holds c.args.queue) (g.met.Q.EventQueue.within c.args.queue) (g.met.Q.EventQueue.usual c.args.queue) in
    record {
      opening = (
        open_none (g.B.FlightBook.meaning c.args.book) (g.Q.EventQueue.holds c.args.queue) (subst (λ (k : ℕ). k ≤ 8) c.scale.ensures c.if-scale-gt8.false) e,
        opened_is (g.B.FlightBook.meaning c.args.book) (g.Q.EventQueue.holds c.args.queue) _ held e c.new.ensures _ (ap quiet c.zero.ensures),
        ap quiet c.zero-2.ensures,
      );
      promise = promise;
      show = small_show;
    }
