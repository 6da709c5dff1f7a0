-- A heap of entries with an index: heap lists the entries by place, place tells each slot's place, or 65,535 for none.
use Rattle.std.specs.Prelude.{◌≡◌, ℕ, ◌-◌, ◌/◌, ◌<◌, true, false, cond, Some, None, Option, ◌==◌, ◌≢◌, slice_index_or}
use Rattle.std.proofs.Common.{arith}
use Rattle.rules.specs.Basics.{put}
use Rattle.rules.specs.Stamps.{Stamp}
use Rattle.times.specs.Of.{moment_of}
use Rattle.times.proofs.Times.{coprime_one}
use Rattle.queues.specs.declared.entry.Entry.{Entry}
use Rattle.heap_queue.specs.declared.tree.Tree.{Tree}
use Rattle.heap_queue.specs.declared.tree.Gap.{Gap}
use Rattle.queues.specs.Entries.{comes_before}

-- the parent of place k, but for place 0
abbrev pub up : ℕ → ℕ
up k = (k - 1) / 2

-- slot 0 at time 0: what is read past the table's end
pub nothing : Entry
nothing = record {
  moment = record {
    time = record { n = 0; d = 1; positive = omega arith; small = omega arith; inside = omega arith; least = coprime_one 0 };
    after = false;
  };
  slot = record { number = 0; inside = omega arith };
}

-- a place as the index tells it
abbrev pub place_in : ℕ → Option ℕ
place_in p = cond (p == 65535) None (Some p)

-- the entry at place i, its slot, and the place of slot k
abbrev pub entry_of : Tree → ℕ → Entry
entry_of t i = slice_index_or t.heap i nothing

abbrev pub slot_of : Tree → ℕ → ℕ
slot_of t i = let e = entry_of t i in e.slot.number

abbrev pub place_of : Tree → ℕ → Option ℕ
place_of t k = place_in (slice_index_or t.place k 65535)

-- the moment at a place, where there is one; and what is held: for each slot its moment, or nothing
abbrev pub told : Tree → Option ℕ → Option Stamp
told t None = None
told t (Some p) = let e = entry_of t p in Some (moment_of e.moment)

abbrev pub held : Tree → ℕ → Option Stamp
held t k = told t (place_of t k)

-- heap and index are inverse: the slots that stand at the heap's places have these places;
-- the places of slots are the heap's, and these slots stand there
abbrev pub Places : Tree → Type 0
Places t = (i : ℕ) → i < t.len → place_of t (slot_of t i) ≡ Some i

abbrev pub Found : Tree → Type 0
Found t = (k p : ℕ) → place_of t k ≡ Some p → (p < t.len) × (slot_of t p ≡ k)

-- no entry comes before its parent
abbrev pub Ordered : Tree → Type 0
Ordered t = (k : ℕ) → 0 < k → k < t.len → comes_before (entry_of t k) (entry_of t (up k)) ≡ false

pub record Whole (t : Tree) : Type 0 where
  pub places : Places t
  pub found : Found t
  pub order : Ordered t

-- no slot has a place
pub record Empty (t : Tree) : Type 0 where
  pub whole : Whole t
  pub nothing : (k : ℕ) → held t k ≡ None

-- the same with a gap at one place, and a slot in hand that is to fill a place
pub record IndexedBut (t : Tree) (gap hand : ℕ) : Type 0 where
  pub inside : gap < t.len
  pub places : (i : ℕ) → i < t.len → (i ≢ gap) → place_of t (slot_of t i) ≡ Some i
  pub others : (i : ℕ) → i < t.len → (i ≢ gap) → slot_of t i ≢ hand
  pub below : (k p : ℕ) → (k ≢ hand) → place_of t k ≡ Some p → p < t.len
  pub away : (k p : ℕ) → (k ≢ hand) → place_of t k ≡ Some p → p ≢ gap
  pub found : (k p : ℕ) → (k ≢ hand) → place_of t k ≡ Some p → slot_of t p ≡ k

-- the order of all but the gap; the gap's children do not come before its parent
pub record OrderedBut (t : Tree) (gap : ℕ) : Type 0 where
  pub rest : (k : ℕ) → 0 < k → k < t.len → (k ≢ gap) → (up k ≢ gap) → comes_before (entry_of t k) (entry_of t (up k)) ≡ false
  pub over : (k : ℕ) → 0 < k → k < t.len → 0 < gap → up k ≡ gap → comes_before (entry_of t k) (entry_of t (up gap)) ≡ false

pub record Gapped (t : Tree) (g : Gap) : Type 0 where
  pub index : IndexedBut t g.at g.hand.slot.number
  pub order : OrderedBut t g.at

-- the entry in hand does not come before the gap's parent
abbrev pub Below : Tree → Gap → Type 0
Below t g = 0 < g.at → comes_before g.hand (entry_of t (up g.at)) ≡ false

-- no child of the gap comes before the entry in hand
abbrev pub Above : Tree → Gap → Type 0
Above t g = (k : ℕ) → 0 < k → k < t.len → up k ≡ g.at → comes_before (entry_of t k) g.hand ≡ false

-- the gap's parent at place p comes after the entry in hand
pub record ParentAfter (t : Tree) (g : Gap) (p : ℕ) : Type 0 where
  pub below : 0 < g.at
  pub parent : p ≡ up g.at
  pub after : comes_before g.hand (entry_of t p) ≡ true

-- of the gap's children, the one at place c does not come after the other
pub record LeastChild (t : Tree) (gap c : ℕ) : Type 0 where
  pub inside : c < t.len
  pub under : 0 < c
  pub parent : up c ≡ gap
  pub least : (k : ℕ) → 0 < k → k < t.len → up k ≡ gap → comes_before (entry_of t k) (entry_of t c) ≡ false

-- it comes before the entry in hand
pub record ChildBefore (t : Tree) (g : Gap) (c : ℕ) : Type 0 where
  pub child : LeastChild t g.at c
  pub sooner : comes_before (entry_of t c) g.hand ≡ true

-- t with an entry put at a place
pub record Filled (t u : Tree) (at : ℕ) (e : Entry) : Type 0 where
  pub size : u.len ≡ t.len
  pub here : entry_of u at ≡ e
  pub other : (i : ℕ) → (i ≢ at) → entry_of u i ≡ entry_of t i
  pub placed : place_of u e.slot.number ≡ Some at
  pub others : (k : ℕ) → (k ≢ e.slot.number) → place_of u k ≡ place_of t k

-- the gap g of t went to where it is the gap h of u, with the same entry in hand; the other slots hold what they held
pub record Went (t u : Tree) (g h : Gap) : Type 0 where
  pub gapped : Gapped u h
  pub hand : h.hand ≡ g.hand
  pub same : (k : ℕ) → (k ≢ g.hand.slot.number) → held u k ≡ held t k

-- the entry in hand stands where it belongs
pub record Settled (t u : Tree) (hand : Entry) : Type 0 where
  pub whole : Whole u
  pub held : held u ≡ put (held t) hand.slot.number (Some (moment_of hand.moment))

-- u is t with a gap at a place, for a slot
pub record Seated (t u : Tree) (slot gap : ℕ) : Type 0 where
  pub index : IndexedBut u gap slot
  pub order : OrderedBut u gap
  pub held : held u ≡ held t

-- a gap that a slot has left, and what is held by the entry in hand
pub record Vacant (t : Tree) (g : Gap) : Type 0 where
  pub gapped : Gapped t g
  pub last : held t g.hand.slot.number ≡ Some (moment_of g.hand.moment)
