-- The order of entries is strict and total.
use Rattle.std.specs.Prelude.{◌≡◌, ◌≤◌, Bool, true, false, Some, refl}
use Rattle.std.specs.declared.cmp.Ordering.{Ordering}
use Rattle.std.specs.declared.cmp.Ordering.TheVariants.{Less, Equal, Greater}
use Rattle.std.specs.Ordering.{nat_cmp, bool_cmp, ordering_then, partial_ordering_then, ordering_reverse, is_some_and, is_lt}
use Rattle.std.specs.Cmp.{IsTotalOrder, IsStrictWeakOrder}
use Rattle.std.proofs.Common.{sym, ap, ◌∙◌, rules}
use Rattle.std.proofs.lemmas.Bool.{both_ways}
use Rattle.std.proofs.lemmas.Cmp.{ranked, tied_itself, nat_cmp_total, on_total, then_total}
use Rattle.std.proofs.lemmas.List.MinMax.{ranks_by}
use Rattle.std.proofs.lemmas.Map.Keys.{ge_from_not_lt}
use Rattle.rules.specs.Stamps.{is_earlier}
use Rattle.times.specs.declared.moment.Moment.{Moment}
use Rattle.times.specs.Of.{moment_of}
use Rattle.times.specs.Orders.{time_cmp, moment_cmp}
use Rattle.times.specs.Ordered.{moment_total}
use Rattle.queues.specs.declared.entry.Entry.{Entry}
use Rattle.queues.specs.Entries.{Key, key_cmp, ahead, comes_before}

key_total : IsTotalOrder key_cmp
key_total = then_total (on_total (λ (e : Key). e.1) moment_total) (on_total (λ (e : Key). e.0) nat_cmp_total)

pub keys : IsStrictWeakOrder ahead
unfolding ahead
keys = ranks_by key_total (λ (e : Key). e)

less_is : (r : Ordering) → is_lt r ≡ true → r ≡ Less
less_is Less h = refl
less_is Equal h = absurd (both_ways false refl h)
less_is Greater h = absurd (both_ways false refl h)

pub ahead_chain : (e f g : Key) → ahead e f ≡ true → ahead f g ≡ true → ahead e g ≡ true
unfolding ahead
ahead_chain e f g h k = ap is_lt (key_total.trans e f g (less_is (key_cmp e f) h) (less_is (key_cmp f g) k))

pub ahead_never : (e : Key) → ahead e e ≡ false
unfolding ahead
ahead_never e = ap is_lt (tied_itself key_total e)

tied : (r s : Ordering) → is_lt (ordering_then r s) ≡ false → is_lt (ordering_reverse (ordering_then r s)) ≡ false → s ≡ Equal
tied Less s h g = absurd (both_ways true h refl)
tied Equal Less h g = absurd (both_ways true h refl)
tied Equal Equal h g = refl
tied Equal Greater h g = absurd (both_ways true g refl)
tied Greater s h g = absurd (both_ways true g refl)

pub ahead_total : (e f : Key) → ahead e f ≡ false → ahead f e ≡ false → e.0 ≡ f.0
unfolding ahead
ahead_total e f h g =
    ranked e.0 f.0 Equal (sym (tied (moment_cmp e.1 f.1) (nat_cmp e.0 f.0) h (sym (ap is_lt (key_total.antisymm f e)) ∙ g)))

-- the order of moments as values
abbrev pub sooner : Moment → Moment → Bool
sooner m k = is_earlier (moment_of m) (moment_of k)

sooner_is : (m k : Moment) → is_lt (moment_cmp m k) ≡ sooner m k
sooner_is m k = search rules

parts : (r s : Ordering) → is_lt (ordering_then r s) ≡ false → (is_lt r ≡ false) × (is_lt (ordering_reverse r) ≡ false → is_lt s ≡ false)
parts Less s h = absurd (both_ways true h refl)
parts Equal s h = (refl, λ _. h)
parts Greater s h = (refl, λ g. absurd (both_ways true g refl))

-- what an entry that does not come before another says of the moments, and of the slots of equal ones
pub ahead_parts : (e f : Key) → ahead e f ≡ false → (sooner e.1 f.1 ≡ false) × (sooner f.1 e.1 ≡ false → f.0 ≤ e.0)
unfolding ahead
ahead_parts e f h =
    let p = parts (moment_cmp e.1 f.1) (nat_cmp e.0 f.0) h in (
      sym (sooner_is e.1 f.1) ∙ p.0,
      λ g. ge_from_not_lt e.0 f.0 (p.1 (sym (ap is_lt (moment_total.antisymm f.1 e.1)) ∙ sooner_is f.1 e.1 ∙ g)),
    )

-- the code's `<` of entries
code_less : (r s t : Ordering) → is_some_and is_lt (partial_ordering_then (partial_ordering_then (Some r) (Some s)) (Some t)) ≡ is_lt (ordering_then (ordering_then r s) t)
code_less Less s t = refl
code_less Equal Less t = refl
code_less Equal Equal t = refl
code_less Equal Greater t = refl
code_less Greater s t = refl

pub less : (a b : Entry) → is_some_and is_lt (partial_ordering_then (partial_ordering_then (Some (time_cmp a.moment.time b.moment.time)) (Some (bool_cmp a.moment.after b.moment.after))) (Some (nat_cmp a.slot.number b.slot.number))) ≡ comes_before a b
unfolding ahead
less a b = code_less (time_cmp a.moment.time b.moment.time) (bool_cmp a.moment.after b.moment.after) (nat_cmp a.slot.number b.slot.number)
