-- Entries: a slot with its moment, and their order.
use Rattle.std.specs.Prelude.{ℕ, Bool}
use Rattle.std.specs.declared.cmp.Ordering.{Ordering}
use Rattle.std.specs.Ordering.{nat_cmp, ordering_then, is_lt}
use Rattle.times.specs.declared.moment.Moment.{Moment}
use Rattle.times.specs.Orders.{moment_cmp}
use Rattle.queues.specs.declared.entry.Entry.{Entry}

-- a slot's number with its moment
abbrev pub Key : Type 0
Key = ℕ × Moment

abbrev pub key : Entry → Key
key e = (e.slot.number, e.moment)

-- in the order of the moments, and of equal moments in that of the slots
abbrev pub key_cmp : Key → Key → Ordering
key_cmp e f = ordering_then (moment_cmp e.1 f.1) (nat_cmp e.0 f.0)

-- e comes before f
unfoldable pub ahead : Key → Key → Bool
ahead e f = is_lt (key_cmp e f)

-- the same of entries
abbrev pub comes_before : Entry → Entry → Bool
comes_before a b = ahead (key a) (key b)
