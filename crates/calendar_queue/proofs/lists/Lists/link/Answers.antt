use Rattle.std.proofs.Common.{◌∙◌}
use Rattle.std.proofs.lemmas.List.{length-set}
use Rattle.calendar_queue.specs.Changes.{link_kept}
use Rattle.calendar_queue.proofs.lists.Lists.link.Goals as goal

pub invariant_of-self-clause-placed : goal.invariant_of-self-clause-placed
invariant_of-self-clause-placed c = let s = c.args.self.now in length-set _ _ _ ∙ length-set s.next _ _ ∙ s.placed

pub invariant_of-self-clause-linked : goal.invariant_of-self-clause-linked
invariant_of-self-clause-linked c =
    let s = c.args.self.now in
    (link_kept s.moments s.next c.args.entry c.seek-place.result s.held s.placed s.linked c.seek-place.ensures c.requires c.place-slot.result c.place-slot.ensures.value).0

pub returns-clause-others : goal.returns-clause-others
returns-clause-others c =
    let s = c.args.self.now in
    (link_kept s.moments s.next c.args.entry c.seek-place.result s.held s.placed s.linked c.seek-place.ensures c.requires c.place-slot.result c.place-slot.ensures.value).1
