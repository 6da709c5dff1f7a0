use Rattle.calendar_queue.specs.Entries.{bucket}
use Rattle.calendar_queue.specs.Bests.{agree_after}
use Rattle.calendar_queue.proofs.calendar.CalendarQueue.fill.Goals as goal

pub invariant_of-self : goal.invariant_of-self
invariant_of-self c =
    let q = c.args.self.now in
    let l = c.link.new.self in
    record {
      agree = agree_after q.lists.moments l.moments q.lists.next l.next q.crown.nodes c.refresh.new.crown.nodes c.of.result.number (bucket c.args.entry.moment) c.of.ensures q.agree c.link.ensures.others c.refresh.ensures;
    }
