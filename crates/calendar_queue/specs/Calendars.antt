-- What a calendar holds, and how its tournament agrees with its buckets.
use Rattle.std.specs.Prelude.{◌≡◌, ℕ, ◌+◌, ◌<◌, List, Some, None, Option}
use Rattle.rules.specs.Stamps.{Stamp}
use Rattle.rules.specs.Slots.{Queue}
use Rattle.times.specs.declared.moment.Moment.{Moment}
use Rattle.times.specs.Of.{moment_of}
use Rattle.queues.specs.Meanings.{stored}
use Rattle.queues.specs.declared.entry.Entry.{Entry}
use Rattle.calendar_queue.specs.Links.{table}
use Rattle.calendar_queue.specs.Heads.{head_of}
use Rattle.calendar_queue.specs.Crowns.{node}

-- the moments of the slots, as values
abbrev pub kept_in : List (Option Moment) → Queue
kept_in ms k = stored (table ms k)

-- each leaf holds the first entry of its bucket
abbrev pub Agree : List (Option Moment) → List ℕ → List (Option Entry) → Type 0
Agree ms ns es = (b : ℕ) → b < 128 → node es (128 + b) ≡ head_of ms ns b

-- an entry as a value
abbrev pub told : Option Entry → Option (ℕ × Stamp)
told None = None
told (Some e) = Some (e.slot.number, moment_of e.moment)
