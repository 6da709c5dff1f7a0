-- What the writes of linking and unlinking leave in the two tables.
use Rattle.std.specs.Prelude.{◌≡◌, ℕ, ◌+◌, ◌<◌, ◌≤◌, true, false, List, length, replicate, Some, None, Option, ◌≢◌, slice_set, slice_index, refl}
use Rattle.std.proofs.Common.{sym, ap, ◌∙◌, subst, arith}
use Rattle.std.proofs.lemmas.List.{get_or-set_same, get_or-set_other, length-set}
use Rattle.std.proofs.lemmas.Bool.{both_ways}
use Rattle.std.proofs.lemmas.Option.{none-some, same_Some}
use Rattle.times.specs.declared.moment.Moment.{Moment}
use Rattle.queues.specs.declared.slot.Slot.{Slot}
use Rattle.queues.specs.declared.entry.Entry.{Entry}
use Rattle.queues.specs.Entries.{ahead, key}
use Rattle.calendar_queue.specs.Entries.{bucket, leads, lies}
use Rattle.calendar_queue.specs.Links.{table, slot_in, named, number_or, links, Linked, Sought}
use Rattle.calendar_queue.specs.Heads.{entry_at, head_of, OtherHeads, Kept}
use Rattle.calendar_queue.specs.Order.{leads_empty, leads_both, lies_none, lies_one, lies_bucket}
use Rattle.calendar_queue.specs.Tables.{empty_at}
use Rattle.calendar_queue.specs.Numbers.{slot_number, none_named, number_at}
use Rattle.calendar_queue.specs.Places.{apart_empty}
use Rattle.calendar_queue.specs.Chains.{linked_in, linked_out, heads_stay}
use Rattle.calendar_queue.specs.Walks.{table_bounded}

pub entry_none : (o : Option Slot) → entry_at o None ≡ None
unfolding entry_at
entry_none None = refl
entry_none (Some s) = refl

-- an entry read at a slot that holds a moment, and what an entry that was read says
pub entry_some : (o : Option Slot) (t : Option Moment) (m : Moment) → number_or o < 12352 → t ≡ Some m → (e : Entry) × ((entry_at o t ≡ Some e) × (e.slot.number ≡ number_or o) × (e.moment ≡ m))
unfolding entry_at
entry_some None t m l h = absurd (omega arith)
entry_some (Some s) t m l h = (record { moment = m; slot = s }, (ap (entry_at (Some s)) h, refl, refl))

pub entry_held : (o : Option Slot) (t : Option Moment) (e : Entry) → entry_at o t ≡ Some e → (e.slot.number ≡ number_or o) × (t ≡ Some e.moment)
unfolding entry_at
entry_held None t e p = absurd (none-some e p)
entry_held (Some s) None e p = absurd (none-some e p)
entry_held (Some s) (Some m) e p =
    let q : record { moment = m; slot = s } ≡ e = same_Some _ _ p in
    (ap (λ (x : Entry). x.slot.number) (sym q), ap (λ (x : Entry). Some x.moment) q)

-- no entry that was read comes before nothing, and one that was read comes before what it is ahead of
pub none_leads : (o : Option Slot) (t : Option Moment) (j : ℕ) (w : Option Moment) → (12352 ≤ number_or o → t ≡ None) → entry_at o t ≡ None → leads (number_or o) t j w ≡ false
unfolding entry_at
none_leads None t j w b h = ap (λ (y : Option Moment). leads 12480 y j w) (b (omega arith)) ∙ leads_empty 12480 j w
none_leads (Some s) None j w b h = leads_empty s.number j w
none_leads (Some s) (Some m) j w b h = absurd (none-some _ (sym h))

pub some_leads : (o : Option Slot) (t : Option Moment) (e : Entry) (j : ℕ) (w : Moment) → entry_at o t ≡ Some e → leads (number_or o) t j (Some w) ≡ ahead (key e) (j, w)
some_leads o t e j w h =
    let p = entry_held o t e h in
    leads_both (number_or o) j t (Some w) e.moment w p.1 refl ∙ ap (λ (n : ℕ). ahead (n, e.moment) (j, w)) (sym p.0)

-- empty tables
pub empty_linked : (n k z : ℕ) → 12352 ≤ z → Linked (replicate n None) (replicate k z)
empty_linked n k z o p b lb s = record {
  inside = λ l. absurd (high l);
  after = λ l. absurd (high l);
  some = λ j h. absurd (empty j h);
  least = λ j h. absurd (empty j h);
}
  where
    high : links (replicate k z) p < 12352 → ⊥
    high l = let r : links (replicate k z) p ≡ 12480 = ap number_or (none_named k z p o) in omega arith

    empty : (j : ℕ) → lies (table (replicate n None) j) b ≢ true
    empty j h = both_ways _ (ap (λ o. lies o b) (empty_at n j) ∙ lies_none b) h

pub empty_head : (n k z b : ℕ) → head_of (replicate n None) (replicate k z) b ≡ None
empty_head n k z b = ap (entry_at _) (empty_at n _) ∙ entry_none _

module _ (ms : List (Option Moment)) (ns : List ℕ) (e : Entry) (p : ℕ) (held : length ms ≡ 12352) (placed : length ns ≡ 12480) (linked : Linked ms ns)
    (found : Sought ms ns e p) where
  head_as : (us : List (Option Moment)) (vs : List ℕ) (b : ℕ) → named vs (12352 + b) ≡ named ns (12352 + b) → table us (links ns (12352 + b)) ≡ table ms (links ns (12352 + b)) → head_of us vs b ≡ head_of ms ns b
  head_as us vs b q f = ap (λ (o : Option Slot). entry_at o (table us (number_or o))) q ∙ ap (entry_at (named ns (12352 + b))) f

  -- the slot was empty
  module _ (empty : table ms e.slot.number ≡ None) where
    abbrev put_in : List ℕ
    put_in = slice_set (slice_set ns e.slot.number (slice_index ns p)) p e.slot.number

    apart : p ≡ e.slot.number → ⊥
    apart = apart_empty (table ms) p e.slot.number (bucket e.moment) e.slot.inside empty found.here

    at_x : links put_in e.slot.number ≡ links ns p
    at_x =
        ap (λ (n : ℕ). number_or (slot_in n))
        (get_or-set_other (slice_set ns e.slot.number (slice_index ns p)) p e.slot.number e.slot.number 12480 (λ q. apart (sym q))
        ∙ get_or-set_same ns e.slot.number (slice_index ns p) 12480 (let i = e.slot.inside in omega arith)
        ∙ number_at ns p placed found.below)

    at_p : links put_in p ≡ e.slot.number
    at_p =
        ap (λ (n : ℕ). number_or (slot_in n)) (get_or-set_same (slice_set ns e.slot.number (slice_index ns p)) p e.slot.number 12480 (let l = found.below in let q = length-set ns e.slot.number (slice_index ns p) in omega arith))
        ∙ ap number_or (slot_number e.slot)

    at_k : (k : ℕ) → (k ≢ e.slot.number) → (k ≢ p) → named put_in k ≡ named ns k
    at_k k nx np = ap slot_in (get_or-set_other (slice_set ns e.slot.number (slice_index ns p)) p k e.slot.number 12480 np ∙ get_or-set_other ns e.slot.number k (slice_index ns p) 12480 nx)

    link_right : Linked (slice_set ms e.slot.number (Some e.moment)) (slice_set (slice_set ns e.slot.number (slice_index ns p)) p e.slot.number)
    link_right =
        linked_in (table ms) (table (slice_set ms e.slot.number (Some e.moment))) (links ns) (links put_in) e.slot.number p e.moment (table_bounded ms held) linked e.slot.inside empty
        (get_or-set_same ms e.slot.number (Some e.moment) None (let i = e.slot.inside in omega arith)) (λ k ne. get_or-set_other ms e.slot.number k (Some e.moment) None ne) at_x at_p (λ k nx np. ap number_or (at_k k nx np)) found.here found.before found.last

    link_heads : OtherHeads ms ns (slice_set ms e.slot.number (Some e.moment)) (slice_set (slice_set ns e.slot.number (slice_index ns p)) p e.slot.number) e.moment
    link_heads b lb ne =
        let i = e.slot.inside in
        let h = heads_stay (table ms) (table (slice_set ms e.slot.number (Some e.moment))) (links ns) e.slot.number p e.moment linked e.slot.inside (λ k ne. get_or-set_other ms e.slot.number k (Some e.moment) None ne) found.here
        (λ a l. absurd (both_ways _ (ap (λ o. lies o a) empty ∙ lies_none a) l)) b lb ne in
        head_as _ _ b (at_k (12352 + b) (λ q. omega arith) h.0) h.1

    -- the same of an index that equals the slot
    pub link_kept : (k : ℕ) → k ≡ e.slot.number → Kept ms ns e.moment (slice_set ms k (Some e.moment)) (slice_set (slice_set ns k (slice_index ns p)) p e.slot.number)
    link_kept k i =
        subst
        (λ (k : ℕ). Kept ms ns e.moment (slice_set ms k (Some e.moment)) (slice_set (slice_set ns k (slice_index ns p)) p e.slot.number))
        (sym i)
        (link_right, link_heads)

  -- the slot held the moment
  module _ (full : table ms e.slot.number ≡ Some e.moment) where
    at_p' : links (slice_set ns p (slice_index ns e.slot.number)) p ≡ links ns e.slot.number
    at_p' = ap (λ (n : ℕ). number_or (slot_in n)) (get_or-set_same ns p (slice_index ns e.slot.number) 12480 (let l = found.below in omega arith) ∙ number_at ns e.slot.number placed (let i = e.slot.inside in omega arith))

    at_k' : (k : ℕ) → (k ≢ p) → named (slice_set ns p (slice_index ns e.slot.number)) k ≡ named ns k
    at_k' k np = ap slot_in (get_or-set_other ns p k (slice_index ns e.slot.number) 12480 np)

    unlink_right : Linked (slice_set ms e.slot.number None) (slice_set ns p (slice_index ns e.slot.number))
    unlink_right =
        linked_out (table ms) (table (slice_set ms e.slot.number None)) (links ns) (links (slice_set ns p (slice_index ns e.slot.number))) e.slot.number p e.moment (table_bounded ms held) linked e.slot.inside full
        (get_or-set_same ms e.slot.number None None (let i = e.slot.inside in omega arith)) (λ k ne. get_or-set_other ms e.slot.number k None None ne) at_p' (λ k nx np. ap number_or (at_k' k np)) found.here found.before found.last

    unlink_heads : OtherHeads ms ns (slice_set ms e.slot.number None) (slice_set ns p (slice_index ns e.slot.number)) e.moment
    unlink_heads b lb ne =
        let h = heads_stay (table ms) (table (slice_set ms e.slot.number None)) (links ns) e.slot.number p e.moment linked e.slot.inside (λ k ne. get_or-set_other ms e.slot.number k None None ne) found.here
        (λ a l. lies_one (table ms e.slot.number) a (bucket e.moment) l (ap (λ o. lies o (bucket e.moment)) full ∙ lies_bucket e.moment)) b lb ne in
        head_as _ _ b (at_k' (12352 + b) h.0) h.1

    pub unlink_kept : (k : ℕ) → k ≡ e.slot.number → Kept ms ns e.moment (slice_set ms k None) (slice_set ns p (slice_index ns k))
    unlink_kept k i =
        subst
        (λ (k : ℕ). Kept ms ns e.moment (slice_set ms k None) (slice_set ns p (slice_index ns k)))
        (sym i)
        (unlink_right, unlink_heads)
