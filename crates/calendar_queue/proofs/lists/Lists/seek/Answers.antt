use Rattle.std.proofs.Common.{◌≡◌, ℕ, ◌+◌, true, sym, ap, ◌∙◌, subst, rules, arith}
use Rattle.calendar_queue.specs.Entries.{bucket}
use Rattle.calendar_queue.specs.Links.{table, links, stands}
use Rattle.calendar_queue.specs.Order.{bucket_below}
use Rattle.calendar_queue.specs.Places.{begins, opens_start}
use Rattle.calendar_queue.specs.Walks.{place_below, table_bounded, Step, step}
use Rattle.calendar_queue.proofs.lists.Lists.seek.Goals as goal

pub loop-slot-init : goal.loop-slot-init
loop-slot-init c =
    let t = table c.args.self.now.moments in
    let e = c.start-place.ensures ∙ ap (λ (k : ℕ). 12352 + k) c.of.ensures in
    record {
      here = subst (λ (k : ℕ). stands t k (bucket c.args.wanted.moment) ≡ true) (sym e) (begins t (bucket c.args.wanted.moment));
      before = opens_start t _ _ _ (omega arith);
    }

pub step-requires : goal.step-requires
step-requires c =
    place_below (table c.args.self.now.moments) c.loop-slot.place c.args.wanted.moment c.loop-slot.invariant.here

pub returns : goal.returns
returns c =
    let h = c.loop-slot.invariant in
    record { below = place_below (table c.args.self.now.moments) c.loop-slot.place c.args.wanted.moment h.here; here = h.here; before = h.before; last = search rules }

-- the turn's step
gone_on : (c : goal.After-place-place) → Step (table c.args.self.now.moments) (bucket c.args.wanted.moment) c.loop-slot.place c.place-place.result c.args.wanted.slot.number c.args.wanted.moment
gone_on c =
    let s = c.args.self.now in
    let t = table s.moments in
    let w = c.args.wanted in
    subst
    (λ (k : ℕ). Step t (bucket w.moment) c.loop-slot.place k w.slot.number w.moment)
    (sym (c.place-place.ensures.value ∙ sym c.in-Some.ensures.0))
    (step t (links s.next) (bucket w.moment) c.loop-slot.place w.slot.number w.moment (table_bounded s.moments s.held) s.linked (bucket_below w.moment) c.loop-slot.invariant.here c.in-Some.ensures.1)

pub loop-slot-smaller : goal.loop-slot-smaller
loop-slot-smaller c = (gone_on c).less

pub loop-slot-preserved : goal.loop-slot-preserved
loop-slot-preserved c = record { here = (gone_on c).stands; before = (gone_on c).opens }
