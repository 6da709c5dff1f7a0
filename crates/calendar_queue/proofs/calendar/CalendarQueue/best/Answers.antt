use Rattle.calendar_queue.specs.Bests.{first_is}
use Rattle.calendar_queue.proofs.calendar.CalendarQueue.best.Goals as goal

pub returns : goal.returns
returns c =
    let q = c.args.self.now in
    first_is q.lists.moments q.lists.next q.crown.nodes q.lists.held
    q.lists.linked
    q.crown.matched
    q.agree
    c.top.result c.top.ensures
