use Rattle.std.proofs.Common.{set, sym, refl, ap, ◌∙◌}
use Rattle.heap_queue.proofs.Places.{vacate_held, vacate_last, vacate_inner}
use Rattle.heap_queue.proofs.tree.Tree.vacate.Goals as goal

pub returns-then-at-end-clause-left : goal.returns-then-at-end-clause-left
returns-then-at-end-clause-left c =
    let t = c.args.self.now in
    let slot = c.args.slot in
    let table = ap (λ k. set t.place k 65535) c.place.ensures.value in
    vacate_last t c.requires slot.number c.in_ok-at.at (sym c.place_of.ensures ∙ c.in_ok-at.was) _ refl table slot.inside refl c.if-at-end.true

pub returns-clause-left : goal.returns-clause-left
returns-clause-left c =
    let t = c.args.self.now in
    let slot = c.args.slot in
    let table = ap (λ k. set t.place k 65535) c.place.ensures.value in
    vacate_inner t c.requires slot.number c.in_ok-at.at (sym c.place_of.ensures ∙ c.in_ok-at.was) _ refl table slot.inside refl c.if-at-end.false _ c.entry.ensures

pub returns-clause-held : goal.returns-clause-held
returns-clause-held c =
    let slot = c.args.slot in
    vacate_held c.args.self.now c.requires slot.number c.in_ok-at.at (sym c.place_of.ensures ∙ c.in_ok-at.was) _ c.place.result slot.inside c.place.ensures.value (λ k. refl)
