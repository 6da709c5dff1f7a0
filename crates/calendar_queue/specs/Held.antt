-- What a calendar holds.
use Rattle.rules.specs.Slots.{Queue}
use Rattle.calendar_queue.specs.declared.calendar.CalendarQueue.{CalendarQueue}
use Rattle.calendar_queue.specs.Calendars.{kept_in}

abbrev pub holds_of : CalendarQueue → Queue
holds_of q = kept_in q.lists.moments
