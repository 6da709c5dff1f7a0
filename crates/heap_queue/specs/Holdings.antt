-- What the heap holds: the root is the least, and a change is a change at one slot.
use Rattle.std.specs.Prelude.{◌≡◌, ℕ, zero, suc, ◌<◌, ◌≤◌, false, Some, None, Option, nat_eq, refl}
use Rattle.std.proofs.Common.{ap, ◌∙◌, subst, ⊎_elim, arith}
use Rattle.std.proofs.lemmas.List.{get_or_past}
use Rattle.std.proofs.lemmas.Bool.{cases_eq, eq-eqb, ne_eqb}
use Rattle.rules.specs.Fractions.{Usual}
use Rattle.rules.specs.Stamps.{Stamp, is_earlier}
use Rattle.rules.specs.Slots.{First}
use Rattle.times.specs.Of.{moment_of}
use Rattle.queues.specs.Meanings.{soonest, is_nothing}
use Rattle.queues.specs.Laws.{Held}
use Rattle.queues.proofs.Changed.{held_by}
use Rattle.queues.proofs.Firsts.{some_none, some_some, first_only}
use Rattle.heap_queue.specs.declared.tree.Tree.{Tree}
use Rattle.queues.specs.Entries.{comes_before, key}
use Rattle.queues.specs.EntryOrder.{keys, ahead_never, ahead_parts}
use Rattle.heap_queue.specs.Heaps.{up, place_in, entry_of, place_of, told, held, Whole}

-- what is held stands at a place
record Stands (t : Tree) (o : Option ℕ) (m : Stamp) : Type 0 where
  at : ℕ
  is : o ≡ Some at
  moment : let e = entry_of t at in moment_of e.moment ≡ m

stands : (t : Tree) (o : Option ℕ) (m : Stamp) → told t o ≡ Some m → Stands t o m
stands t None m h = some_none None m refl h
stands t (Some p) m h = record { at = p; is = refl; moment = some_some _ _ _ refl h }

pub past_none : (t : Tree) (k : ℕ) → 12352 ≤ k → held t k ≡ None
past_none t k h = ap (λ (p : ℕ). told t (place_in p)) (get_or_past t.place k 65535 (omega (arith, t.size)))

pub held_usual : (t : Tree) (k : ℕ) (m : Stamp) → held t k ≡ Some m → Usual m.time
held_usual t k m h =
    let s = stands t (place_of t k) m h in
    let e = entry_of t s.at in
    let time = e.moment.time in
    subst (λ (x : Stamp). Usual x.time) s.moment (record { proper = time.positive; small = time.small; inside = time.inside; coprime = time.least })

pub holds_held : (t : Tree) → Held (held t)
holds_held t = held_by _ (past_none t) (held_usual t)

-- the places of slots are the heap's
pub place_inside : (t : Tree) (k p : ℕ) → Whole t → place_of t k ≡ Some p → p < 12352
place_inside t k p whole h = omega (arith, (whole.found k p h).0, t.room)

module _ (t : Tree) (whole : Whole t) where
  -- the root comes first of all
  root_by : (n i : ℕ) → i ≤ n → i < t.len → comes_before (entry_of t i) (entry_of t 0) ≡ false
  root_by zero i b l =
      subst (λ (j : ℕ). comes_before (entry_of t j) (entry_of t 0) ≡ false) (let e : 0 ≡ i = omega arith in e) (ahead_never (key (entry_of t 0)))
  root_by (suc n) i b l =
      ⊎_elim
      (λ (e : i ≡ 0). root_by n i (omega arith) l)
      (λ (x : i ≡ 0 → ⊥). keys.chain _ _ _ (whole.order i (omega arith) l) (root_by n (up i) (omega arith) (omega arith)))
      (cases_eq i 0)

  -- the rank of what is held against the root
  ranked : (k : ℕ) (n : Stamp) → held t k ≡ Some n → let r = entry_of t 0 in (is_earlier n (moment_of r.moment) ≡ false) × (is_earlier (moment_of r.moment) n ≡ false → r.slot.number ≤ k)
  ranked k n h =
      let r = entry_of t 0 in
      let s = stands t (place_of t k) n h in
      let found = whole.found k s.at s.is in
      let rank = ahead_parts (key (entry_of t s.at)) (key r) (root_by s.at s.at (omega arith) found.0) in
      subst (λ (x : Stamp). (is_earlier x (moment_of r.moment) ≡ false) × (is_earlier (moment_of r.moment) x ≡ false → r.slot.number ≤ k)) s.moment
      (subst (λ (j : ℕ). (is_earlier (moment_of (entry_of t s.at).moment) (moment_of r.moment) ≡ false) × (is_earlier (moment_of r.moment) (moment_of (entry_of t s.at).moment) ≡ false → r.slot.number ≤ j)) found.1 rank)

  heap_first : 0 < t.len → let r = entry_of t 0 in First (held t) (Some (r.slot.number, moment_of r.moment))
  heap_first pos = record {
    here = ap (told t) (whole.places 0 pos);
    least = λ k n h. (ranked k n h).0;
    lowest = λ k n h g. (ranked k n h).1 g;
  }

  heap_empty : t.len ≡ 0 → First (held t) None
  heap_empty none k = go (place_of t k) refl
    where
      go : (o : Option ℕ) → place_of t k ≡ o → held t k ≡ None
      go None e = ap (told t) e
      go (Some p) e = absurd (omega (arith, (whole.found k p e).0))

  pub first_is : 0 < t.len → let r = entry_of t 0 in Some (r.slot.number, moment_of r.moment) ≡ soonest (held t)
  first_is pos = first_only _ (holds_held t) _ (heap_first pos)

  pub none_is : t.len ≡ 0 → None ≡ soonest (held t)
  none_is none = first_only _ (holds_held t) None (heap_empty none)

  pub empty_is : nat_eq t.len 0 ≡ is_nothing (soonest (held t))
  empty_is = ⊎_elim
      (λ (e : t.len ≡ 0). eq-eqb t.len 0 e ∙ ap is_nothing (none_is e))
      (λ (x : t.len ≡ 0 → ⊥). ne_eqb t.len 0 x ∙ ap is_nothing (first_is (omega arith)))
      (cases_eq t.len 0)
