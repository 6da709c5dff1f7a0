use Rattle.std.proofs.Common.{◌≡◌, true, Some}
use Rattle.calendar_queue.specs.Entries.{bucket}
use Rattle.calendar_queue.specs.Links.{table, stands, opens}
use Rattle.calendar_queue.specs.Walks.{ahead_of}
use Rattle.calendar_queue.proofs.lists.Lists.seek.Given as goal

abbrev pub invariant-loop-slot : goal.invariant-loop-slot
invariant-loop-slot l = record {
  here : stands (table l.self.moments) l.place (bucket l.wanted.moment) ≡ true;
  before : opens (table l.self.moments) l.place l.wanted.slot.number (Some l.wanted.moment) ≡ true;
}

abbrev pub decreases-loop-slot : goal.decreases-loop-slot
decreases-loop-slot l = ahead_of (table l.self.moments) (bucket l.wanted.moment) l.place
