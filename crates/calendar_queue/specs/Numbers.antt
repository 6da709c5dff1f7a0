-- Slots and their numbers in the table of links.
use Rattle.std.specs.Prelude.{◌≡◌, ℕ, ◌<◌, ◌≤◌, Bool, true, false, cond, List, length, replicate, Some, None, Ok, Err, Result, nat_lt, slice_index, slice_index_or, refl}
use Rattle.std.specs.Result.{result_ok}
use Rattle.std.proofs.Common.{sym, ap, ◌∙◌, ⊎_elim, arith}
use Rattle.std.proofs.Math.Bridge.{le_prop}
use Rattle.std.proofs.lemmas.Bool.{both_ways, cases_lt, lt-ltb, le-ltb, ltb-true}
use Rattle.std.proofs.lemmas.List.{get_or_past, get_or-replicate, length-replicate}
use Rattle.std.proofs.lemmas.Grind.{get_or_default_zero}
use Rattle.times.specs.declared.refusal.Refusal.{Refusal}
use Rattle.times.specs.declared.refusal.Refusal.TheVariants.{SlotRange}
use Rattle.queues.specs.declared.slot.Slot.{Slot}
use Rattle.queues.specs.Meanings.{slot_out, answered}
use Rattle.queues.specs.Slots.{slot_told}
use Rattle.calendar_queue.specs.Links.{slot_when, slot_in, named}

-- a slot's number is that slot
when_slot : (s : Slot) (b : Bool) (e : nat_lt s.number 12352 ≡ b) → b ≡ true → slot_when s.number b e ≡ Some s
when_slot s true e h = λ i. Some (record { number = s.number; inside = le_prop (ltb-true s.number 12352 e) s.inside i })
when_slot s false e h = absurd (both_ways false refl h)

pub slot_number : (s : Slot) → slot_in s.number ≡ Some s
unfolding slot_in
slot_number s = when_slot s (nat_lt s.number 12352) refl (lt-ltb s.number 12352 s.inside)

-- and a number above the slots is none
when_none : (n : ℕ) (b : Bool) (e : nat_lt n 12352 ≡ b) → b ≡ false → slot_when n b e ≡ None
when_none n true e h = absurd (both_ways true h refl)
when_none n false e h = refl

pub slot_none : (n : ℕ) → 12352 ≤ n → slot_in n ≡ None
unfolding slot_in
slot_none n l = when_none n (nat_lt n 12352) refl (le-ltb n 12352 l)

-- a table of one such number names none
pub none_named : (k z p : ℕ) → 12352 ≤ z → named (replicate k z) p ≡ None
none_named k z p o =
    ⊎_elim
    (λ l. ap slot_in (get_or-replicate k p z 12480 l) ∙ slot_none z o)
    (λ l. ap slot_in (get_or_past (replicate k z) p 12480 (omega (arith, length-replicate k z))) ∙ slot_none 12480 (omega arith))
    (cases_lt p k)

-- what a place names, as the table is read
pub number_at : (ns : List ℕ) (p : ℕ) → length ns ≡ 12480 → p < 12480 → slice_index ns p ≡ slice_index_or ns p 12480
number_at ns p e l = sym (get_or_default_zero ns p 12480 (omega arith))

-- and what comes of making a slot of it
made_ok : (n m : ℕ) (b : Bool) → Ok m ≡ cond b (Err SlotRange) (Ok n) → m ≡ n
made_ok n m true h = cc
made_ok n m false h = cc

made_err : (n : ℕ) (e : Refusal) (b : Bool) → Err e ≡ cond b (Err SlotRange) (Ok n) → b ≡ true
made_err n e true h = refl
made_err n e false h = cc

made : (n : ℕ) (r : Result Slot Refusal) → slot_told r ≡ answered n n → result_ok r ≡ slot_in n
made n (Ok s) h = sym (slot_number s) ∙ ap slot_in (made_ok n s.number (slot_out n) h)
made n (Err e) h =
    let l : 12351 < n = ltb-true 12351 n (made_err n e (slot_out n) h) in
    sym (slot_none n (omega arith))

pub slot_made : (ns : List ℕ) (p : ℕ) (r : Result Slot Refusal) → length ns ≡ 12480 → p < 12480 → slot_told r ≡ answered (slice_index ns p) (slice_index ns p) → result_ok r ≡ named ns p
slot_made ns p r e l h = made (slice_index ns p) r h ∙ ap slot_in (number_at ns p e l)
