-- The entries that places name, and the first entry of each bucket.
use Rattle.std.specs.Prelude.{◌≡◌, ℕ, ◌+◌, ◌<◌, true, false, List, Some, None, Option, ◌≢◌, MatchOption}
use Rattle.times.specs.declared.moment.Moment.{Moment}
use Rattle.queues.specs.declared.slot.Slot.{Slot}
use Rattle.queues.specs.declared.entry.Entry.{Entry}
use Rattle.calendar_queue.specs.Entries.{bucket, leads}
use Rattle.calendar_queue.specs.Links.{table, named, links, Linked}

-- a slot with its moment, or none where there is no slot or the slot is empty
unfoldable pub entry_at : Option Slot → Option Moment → Option Entry
entry_at None o = None
entry_at (Some s) None = None
entry_at (Some s) (Some m) = Some (record { moment = m; slot = s })

-- the entry that place p names
abbrev pub entry_after : List (Option Moment) → List ℕ → ℕ → Option Entry
entry_after ms ns p = entry_at (named ns p) (table ms (links ns p))

-- what the start of bucket b names
abbrev pub head_of : List (Option Moment) → List ℕ → ℕ → Option Entry
head_of ms ns b = entry_after ms ns (12352 + b)

-- the buckets other than that of m keep their first entries
abbrev pub OtherHeads : List (Option Moment) → List ℕ → List (Option Moment) → List ℕ → Moment → Type 0
OtherHeads ms ns us vs m = (b : ℕ) → b < 128 → (b ≢ bucket m) → head_of us vs b ≡ head_of ms ns b

-- the slot that place p names where it comes before the entry e, and none where it does not
abbrev pub Steps : List (Option Moment) → List ℕ → ℕ → Entry → Option Slot → Type 0
Steps ms ns p e r =
    MatchOption r
    (leads (links ns p) (table ms (links ns p)) e.slot.number (Some e.moment) ≡ false)
    (λ s. (links ns p ≡ s.number) × (leads (links ns p) (table ms (links ns p)) e.slot.number (Some e.moment) ≡ true))

-- a change at the moment m leaves the links right, and the other buckets' first entries
abbrev pub Kept : List (Option Moment) → List ℕ → Moment → List (Option Moment) → List ℕ → Type 0
Kept ms ns m us vs = Linked us vs × OtherHeads ms ns us vs m
