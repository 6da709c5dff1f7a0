-- Buckets as linked lists: each place names the slot that comes next in its bucket.
use Rattle.std.specs.Prelude.{◌≡◌, ℕ, ◌+◌, ◌<◌, Bool, true, false, cond, List, Some, None, Option, ◌==◌, nat_lt, slice_index_or, refl}
use Rattle.std.proofs.lemmas.Bool.{ltb-true}
use Rattle.times.specs.declared.moment.Moment.{Moment}
use Rattle.queues.specs.declared.slot.Slot.{Slot}
use Rattle.queues.specs.declared.entry.Entry.{Entry}
use Rattle.calendar_queue.specs.Entries.{bucket, leads, lies}

-- the moment of each slot
abbrev pub Table : Type 0
Table = ℕ → Option Moment

abbrev pub table : List (Option Moment) → Table
table ms k = slice_index_or ms k None

-- the slot of a number; from 12,352 on a number is none
abbrev pub slot_when : (n : ℕ) (b : Bool) → nat_lt n 12352 ≡ b → Option Slot
slot_when n true e = Some (record { number = n; inside = ltb-true n 12352 e })
slot_when n false e = None

unfoldable pub slot_in : ℕ → Option Slot
slot_in n = slot_when n (nat_lt n 12352) refl

-- the slot that place p names, or none
abbrev pub named : List ℕ → ℕ → Option Slot
named ns p = slot_in (slice_index_or ns p 12480)

-- a slot's number, or a number above all slots where there is none
abbrev pub number_or : Option Slot → ℕ
number_or None = 12480
number_or (Some s) = s.number

-- the number that place p names
abbrev pub links : List ℕ → ℕ → ℕ
links ns p = number_or (named ns p)

-- place p is one of bucket b: a slot that lies in it, or 12,352 + b, the bucket's start
unfoldable pub stands : Table → ℕ → ℕ → Bool
stands t p b = cond (nat_lt p 12352) (lies (t p) b) (p == 12352 + b)

-- place p comes before slot j with moment o; a start comes before every slot
unfoldable pub opens : Table → ℕ → ℕ → Option Moment → Bool
opens t p j o = cond (nat_lt p 12352) (leads p (t p) j o) true

-- n is the first slot of bucket b that comes after place p, or no slot where there is none
pub record Follows (t : Table) (b p n : ℕ) : Type 0 where
  pub inside : n < 12352 → lies (t n) b ≡ true
  pub after : n < 12352 → opens t p n (t n) ≡ true
  pub some : (j : ℕ) → lies (t j) b ≡ true → opens t p j (t j) ≡ true → n < 12352
  pub least : (j : ℕ) → lies (t j) b ≡ true → opens t p j (t j) ≡ true → leads j (t j) n (t n) ≡ false

-- every place of every bucket names the slot that follows
abbrev pub Linked : List (Option Moment) → List ℕ → Type 0
Linked ms ns = (p b : ℕ) → b < 128 → stands (table ms) p b ≡ true → Follows (table ms) b p (links ns p)

-- p is the last place of its bucket that comes before the entry e
pub record Sought (ms : List (Option Moment)) (ns : List ℕ) (e : Entry) (p : ℕ) : Type 0 where
  pub below : p < 12480
  pub here : stands (table ms) p (bucket e.moment) ≡ true
  pub before : opens (table ms) p e.slot.number (Some e.moment) ≡ true
  pub last : leads (links ns p) (table ms (links ns p)) e.slot.number (Some e.moment) ≡ false
