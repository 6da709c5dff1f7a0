-- The tournament's best is the calendar's first.
use Rattle.std.specs.Prelude.{◌≡◌, ℕ, ◌+◌, ◌<◌, ◌≤◌, true, false, cond, List, length, Some, None, Option, ◌==◌, ◌≢◌, refl}
use Rattle.std.proofs.Common.{sym, ap, ◌∙◌, subst, ⊎_elim, arith}
use mathlib.Core.HLevel.{Π_prop, →_prop}
use Rattle.std.proofs.lemmas.Bool.{both_ways, cases_eq, eq-eqb, ne_eqb}
use Rattle.std.proofs.lemmas.Option.{none-some, same_Some}
use Rattle.rules.specs.Fractions.{Usual}
use Rattle.rules.specs.Stamps.{Stamp, is_earlier}
use Rattle.rules.specs.Slots.{First}
use Rattle.times.specs.declared.moment.Moment.{Moment}
use Rattle.times.specs.Of.{moment_of}
use Rattle.times.proofs.Times.{times_usual}
use Rattle.queues.specs.Meanings.{stored, soonest}
use Rattle.queues.specs.Laws.{Held}
use Rattle.queues.specs.Entries.{ahead, key}
use Rattle.queues.specs.EntryOrder.{keys, ahead_parts}
use Rattle.queues.proofs.Changed.{held_by}
use Rattle.queues.proofs.Firsts.{first_only}
use Rattle.queues.specs.declared.entry.Entry.{Entry}
use Rattle.calendar_queue.specs.Entries.{bucket, lies}
use Rattle.calendar_queue.specs.Links.{table, named, links, opens, Follows, Linked}
use Rattle.calendar_queue.specs.Heads.{head_of}
use Rattle.calendar_queue.specs.Crowns.{node, Matched}
use Rattle.calendar_queue.specs.Calendars.{kept_in, Agree, told}
use Rattle.calendar_queue.specs.Order.{leads_both, bucket_below, lies_bucket, lies_none}
use Rattle.calendar_queue.specs.Places.{begins, opens_start}
use Rattle.calendar_queue.specs.Walks.{table_bounded}
use Rattle.calendar_queue.specs.Changes.{entry_some, entry_held}
use Rattle.calendar_queue.specs.Matches.{entries_set, best, comes}

lies_some : (o : Option Moment) (b : ℕ) → lies o b ≡ true → (m : Moment) × (o ≡ Some m)
lies_some None b h = absurd (both_ways _ (lies_none b) h)
lies_some (Some m) b h = (m, refl)

pub agree_prop : (ms : List (Option Moment)) (ns : List ℕ) (es : List (Option Entry)) (x y : Agree ms ns es) → x ≡ y
agree_prop ms ns es = Π_prop (λ b. →_prop (entries_set _ _))

module _ (ms : List (Option Moment)) (ns : List ℕ) (es : List (Option Entry)) (held : length ms ≡ 12352) (linked : Linked ms ns) (matched : Matched es) (agree : Agree ms ns es) where
  -- of each slot's bucket the first entry stands in a leaf, and the slot is not ahead of it
  in_leaf : (k : ℕ) (m : Moment) → table ms k ≡ Some m → (e : Entry) × ((node es (128 + bucket m) ≡ Some e) × (ahead (k, m) (key e) ≡ false))
  in_leaf k m h =
      let f : Follows (table ms) (bucket m) (12352 + bucket m) (links ns (12352 + bucket m)) = linked (12352 + bucket m) (bucket m) (bucket_below m) (begins (table ms) (bucket m)) in
      let lk : lies (table ms k) (bucket m) ≡ true = ap (λ o. lies o (bucket m)) h ∙ lies_bucket m in
      let ok : opens (table ms) (12352 + bucket m) k (table ms k) ≡ true = opens_start (table ms) (12352 + bucket m) k (table ms k) (omega arith) in
      let l = f.some k lk ok in
      let s = lies_some (table ms (links ns (12352 + bucket m))) (bucket m) (f.inside l) in
      let w = entry_some (named ns (12352 + bucket m)) (table ms (links ns (12352 + bucket m))) s.0 l s.1 in (
        w.0,
        (
          agree (bucket m) (bucket_below m) ∙ w.1.0,
          (λ i. ahead (k, m) (w.1.1 i, w.1.2 i))
              ∙ sym (leads_both k (links ns (12352 + bucket m)) (table ms k) (table ms (links ns (12352 + bucket m))) m s.0 h s.1)
              ∙ f.least k lk ok,
        ),
      )

  some_best : (k : ℕ) (m : Moment) → table ms k ≡ Some m → (a : Entry) × ((node es 1 ≡ Some a) × (ahead (k, m) (key a) ≡ false))
  some_best k m h =
      let l = in_leaf k m h in
      let b = bucket_below m in
      let u = best es matched (128 + bucket m) (omega arith) (omega arith) l.0 l.1.0 in (
        u.0,
        (
          u.1.0,
          keys.chain (k, m) (key l.0) (key u.0) l.1.1 u.1.1,
        ),
      )

  -- no slot is ahead of the best
  beaten : (k : ℕ) (m : Moment) (e : Entry) → table ms k ≡ Some m → node es 1 ≡ Some e → ahead (k, m) (key e) ≡ false
  beaten k m e h p =
      let r = some_best k m h in
      subst (λ (x : Entry). ahead (k, m) (key x) ≡ false) (same_Some r.0 e (sym r.1.0 ∙ p)) r.1.1

  -- the best is what its slot holds
  best_held : (e : Entry) → node es 1 ≡ Some e → table ms e.slot.number ≡ Some e.moment
  best_held e p =
      let c = comes es matched in
      let h = entry_held (named ns (12352 + c.0)) (table ms (links ns (12352 + c.0))) e (sym (c.1.1 ∙ agree c.0 c.1.0) ∙ p) in
      ap (table ms) h.0 ∙ h.1

  -- a slot that holds a value holds a moment
  value : (o : Option Moment) (n : Stamp) → stored o ≡ Some n → (m : Moment) × ((o ≡ Some m) × (moment_of m ≡ n))
  value None n e = absurd (none-some n e)
  value (Some m) n e = (m, (refl, same_Some _ _ e))

  pub is_first : (x : Option Entry) → x ≡ node es 1 → First (kept_in ms) (told x)
  is_first None e = λ k. none (table ms k) k refl
    where
      none : (o : Option Moment) (k : ℕ) → table ms k ≡ o → stored (table ms k) ≡ None
      none None k h = ap stored h
      none (Some m) k h =
          let r = some_best k m h in absurd (none-some r.0 (e ∙ r.1.0))
  is_first (Some a) e = record {
    here = ap stored (best_held a (sym e));
    least = λ k n h. let v = value (table ms k) n h in subst (λ (x : Stamp). is_earlier x (moment_of a.moment) ≡ false) v.1.1 (ahead_parts (k, v.0) (key a) (beaten k v.0 a v.1.0 (sym e))).0;
    lowest = λ k n h g. let v = value (table ms k) n h in (ahead_parts (k, v.0) (key a) (beaten k v.0 a v.1.0 (sym e))).1 (subst (λ (x : Stamp). is_earlier (moment_of a.moment) x ≡ false) (sym v.1.1) g);
  }

-- what a calendar holds is held in its slots, and at times that are numbers
pub kept_within : (ms : List (Option Moment)) → length ms ≡ 12352 → (k : ℕ) → 12352 ≤ k → kept_in ms k ≡ None
kept_within ms e k l = ap stored (table_bounded ms e k l)

pub stored_usual : (o : Option Moment) (n : Stamp) → stored o ≡ Some n → Usual n.time
stored_usual None n e = absurd (none-some n e)
stored_usual (Some m) n e =
    subst (λ (x : Stamp). Usual x.time) (same_Some _ _ e) (times_usual m.time)

pub kept_held : (ms : List (Option Moment)) → length ms ≡ 12352 → Held (kept_in ms)
kept_held ms e = held_by (kept_in ms) (kept_within ms e) (λ k. stored_usual (table ms k))

pub first_is : (ms : List (Option Moment)) (ns : List ℕ) (es : List (Option Entry)) → length ms ≡ 12352 → Linked ms ns → Matched es → Agree ms ns es → (x : Option Entry) → x ≡ node es 1 → told x ≡ soonest (kept_in ms)
first_is ms ns es held linked matched agree x e =
    first_only (kept_in ms) (kept_held ms held) (told x) (is_first ms ns es held linked matched agree x e)

-- the leaves after the bucket c was changed and entered anew, under the number i
pub agree_after : (ms us : List (Option Moment)) (ns vs : List ℕ) (es fs : List (Option Entry)) (i c : ℕ) → i ≡ c → Agree ms ns es →
    ((b : ℕ) → b < 128 → (b ≢ c) → head_of us vs b ≡ head_of ms ns b) →
    ((b : ℕ) → b < 128 → node fs (128 + b) ≡ cond (b == i) (head_of us vs i) (node es (128 + b))) → Agree us vs fs
agree_after ms us ns vs es fs i c e agree others fresh b l =
    ⊎_elim
    (λ (q : b ≡ i).
    fresh b l ∙ ap (λ t. cond t (head_of us vs i) (node es (128 + b))) (eq-eqb b i q) ∙ ap (head_of us vs) (sym q))
    (λ (ne : b ≡ i → ⊥).
    fresh b l ∙ ap (λ t. cond t (head_of us vs i) (node es (128 + b))) (ne_eqb b i ne) ∙ agree b l ∙ sym (others b l (λ q. ne (q ∙ sym e))))
    (cases_eq b i)
