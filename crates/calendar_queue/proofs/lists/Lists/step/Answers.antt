use Rattle.std.proofs.Common.{Some, sym, ◌∙◌, subst}
use Rattle.calendar_queue.specs.Links.{table, named, links}
use Rattle.calendar_queue.specs.Heads.{Steps}
use Rattle.calendar_queue.specs.Walks.{table_bounded}
use Rattle.calendar_queue.specs.Changes.{none_leads}
use Rattle.calendar_queue.proofs.lists.Lists.step.Goals as goal

pub returns-in_err-entry : goal.returns-in_err-entry
returns-in_err-entry c =
    let s = c.args.self.now in
    let w = c.args.wanted in
    let n = links s.next c.args.place in
    subst (Steps s.moments s.next c.args.place w) (sym c.from_residual.ensures)
    (none_leads (named s.next c.args.place) (table s.moments n) w.slot.number (Some w.moment) (table_bounded s.moments s.held n) (sym c.after.ensures ∙ c.in_err-entry.was))
