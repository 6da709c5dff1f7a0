-- The hall's certificates are the machine's, and what always holds of its slots.
use Rattle.std.proofs.Common.{◌≡◌, ℕ, zero, suc, ◌*◌, ◌/◌, ◌<◌, ◌≤◌, min, max, Bool, true, false, cond, ◌⊎◌, List, [], ◌∷◌, ℤ, ◌-ℤ◌, nat_abs, is_some, IfSome, Some, None, Option, sym, refl, ap, ◌∙◌, subst, inl, inr, arith}
use mathlib.Core.List.Memᴰ
use native.Mathlib.Nat.{min-eq_left, min-eq_right, max-eq_right, min_comm, max_comm}
use borrow.Author.Differences.{ints}
use Rattle.std.proofs.lemmas.Bool.{cases_lt}
use Rattle.rules.specs.Basics.{◌∈◌, the}
use Rattle.rules.specs.Fractions.{Fraction, Proper, NotAfter, Usual, tick, is_before}
use Rattle.rules.specs.Stamps.{Stamp, at}
use Rattle.rules.specs.Paths.{Axis, Path, leg, Kept, first_after, min_with}
use Rattle.rules.specs.Boxes.{Box, ends, overlap, fails, Fails}
use Rattle.rules.specs.Slots.{slot, leg_slot}
use Rattle.model.specs.Halls.{Craft, Hall, in_hall, others}
use Rattle.model.specs.Moves.{nobody, craft_of, at_break}
use Rattle.geometry_laws.specs.Certificates.{Slow}
use Rattle.geometry_laws.proofs.Certificates.{certificates_right, certificates_usual}
use Rattle.events.specs.Machine.{Pair, Certified}
use Rattle.events.specs.Machine as machine
use Rattle.certified.specs.Histories.{sky_of, core_of}
use Rattle.accounts.specs.Laws.{box_in}
use Rattle.accounts.proofs.Puts.{same_or_not}
use Rattle.telling.proofs.Places.{slot_swap, in_order}
use Rattle.telling.proofs.Effects.{Cell, cell, Wrote, ends_in, failing, overlapping, fresh}
use Rattle.telling.proofs.Moved.{Moved, Other, others_out, others_in}

pub flies_is : (o : Option Craft) → is_some (box_in o) ≡ is_some o
flies_is None = refl
flies_is (Some x) = refl

box_is : (o : Option Craft) → is_some o ≡ true → the (record { half = λ _. 0 }) (box_in o) ≡ (the nobody o).box
box_is None e = let z : ◌≡◌ {A = ℕ} 0 1 = cc in absurd (omega arith)
box_is (Some x) e = refl

abbrev pub two : ℕ → ℕ → Pair
two c d = record { lower = c; higher = d }

-- the ends of an entered craft's box are the machine's
pub ends_are : (m : Hall) (a : Axis) (c : ℕ) → in_hall m c ≡ true → machine.ends_in (sky_of m) (core_of m) a c ≡ ends_in m.craft a c
ends_are m a c ic = ap (λ (b : Box). ends b a ((craft_of c m).leg a)) (box_is (m.craft c) ic)

lower_ends : (m : Hall) (a : Axis) (c d : ℕ) → c < d → in_hall m c ≡ true → ends_in m.craft a (min c d) ≡ machine.ends_in (sky_of m) (core_of m) a c
lower_ends m a c d h ic = ap (ends_in m.craft a) (min-eq_left {n = c} {m = d} (omega arith)) ∙ sym (ends_are m a c ic)

higher_ends : (m : Hall) (a : Axis) (c d : ℕ) → c < d → in_hall m d ≡ true → ends_in m.craft a (max c d) ≡ machine.ends_in (sky_of m) (core_of m) a d
higher_ends m a c d h id = ap (ends_in m.craft a) (max-eq_right {n = c} {m = d} (omega arith)) ∙ sym (ends_are m a d id)

-- no leg is faster than a scale of 8 allows
abbrev pub SlowLegs : (ℕ → Option Craft) → Type 0
SlowLegs cr = (c : ℕ) (a : Axis) → nat_abs ((the nobody (cr c)).leg a).slope ≤ 8000

slow_apart : (x y : ℤ) → nat_abs x ≤ 8000 → nat_abs y ≤ 8000 → nat_abs (x -ℤ y) ≤ 16000
slow_apart x y h k = omega (arith, ints)

slow_ends : (m : Hall) → SlowLegs m.craft → (a : Axis) (c d : ℕ) → Slow (machine.ends_in (sky_of m) (core_of m) a c) (machine.ends_in (sky_of m) (core_of m) a d)
slow_ends m sl a c d = record { one = slow_apart ((craft_of c m).leg a).slope ((craft_of d m).leg a).slope (sl c a) (sl d a); two = slow_apart ((craft_of d m).leg a).slope ((craft_of c m).leg a).slope (sl d a) (sl c a) }

-- a certificate granted at k is the machine's
pub certified : (m : Hall) → SlowLegs m.craft → (k : Stamp) (a : Axis) (c d : ℕ) → c < d → in_hall m c ≡ true → in_hall m d ≡ true → Proper k.time → NotAfter k.time (tick 50000) →
    m.queue (slot a c d) ≡ failing m.craft k a c d (m.bit (slot a c d)) → Certified (sky_of m) (core_of m) k (two c d) a
certified m sl k a c d h ic id pk ik e =
    let p = machine.ends_in (sky_of m) (core_of m) a c in
    let q = machine.ends_in (sky_of m) (core_of m) a d in
    let b = m.bit (slot a c d) in
    subst (λ (o : Option Stamp). Fails b p q k o) (sym (e ∙ (λ i. fails b (lower_ends m a c d h ic i) (higher_ends m a c d h id i) k))) (certificates_right b p q k pk ik (slow_ends m sl a c d))

-- a bit read at k is the machine's
pub read_right : (m : Hall) (k : Stamp) (a : Axis) (c d : ℕ) → c < d → in_hall m c ≡ true → in_hall m d ≡ true → m.bit (slot a c d) ≡ overlapping m.craft k a c d →
    m.bit (slot a c d) ≡ overlap (machine.ends_in (sky_of m) (core_of m) a c) (machine.ends_in (sky_of m) (core_of m) a d) k
read_right m k a c d h ic id e = e ∙ (λ i. overlap (lower_ends m a c d h ic i) (higher_ends m a c d h id i) k)

pub failing_swap : (cr : ℕ → Option Craft) (k : Stamp) (a : Axis) (c d : ℕ) (b : Bool) → failing cr k a c d b ≡ failing cr k a d c b
failing_swap cr k a c d b = λ i. fails b (ends_in cr a (min_comm c d i)) (ends_in cr a (max_comm c d i)) k

pub fresh_swap : (cr : ℕ → Option Craft) (k : Stamp) (a : Axis) (c d : ℕ) → fresh cr k a c d ≡ fresh cr k a d c
fresh_swap cr k a c d = λ i. (
  overlap (ends_in cr a (min_comm c d i)) (ends_in cr a (max_comm c d i)) k,
  fails (overlap (ends_in cr a (min_comm c d i)) (ends_in cr a (max_comm c d i)) k) (ends_in cr a (min_comm c d i)) (ends_in cr a (max_comm c d i)) k,
)

-- ---- times
pub failing_usual : (cr : ℕ → Option Craft) (k : Stamp) (a : Axis) (c d : ℕ) (b : Bool) (j : Stamp) → Usual k.time → failing cr k a c d b ≡ Some j → Usual j.time
failing_usual cr k a c d b j u e =
    subst (λ (o : Option Stamp). IfSome o (λ k. Usual k.time)) e
    (certificates_usual b (ends_in cr a (min c d)) (ends_in cr a (max c d)) k u)

pub usual_inside : (t : Fraction) → Usual t → NotAfter t (tick 50000)
usual_inside t u = let h = u.inside in omega arith

pub tick_usual : (i : ℕ) → i ≤ 50000 → Usual (tick i)
tick_usual i h = record { proper = omega arith; small = omega arith; inside = omega arith; coprime = λ k d e. one k e.0 e.1 }
  where
    one : (k q : ℕ) → 1 ≡ q * k → k ≡ 1
    one k zero e = absurd (omega arith)
    one zero (suc q) e = absurd (omega arith)
    one (suc zero) (suc q) e = refl
    one (suc (suc k)) (suc q) e = absurd (omega arith)

-- the first break after a time is one of the breaks
first_among : (t : Fraction) (ks : List ℕ) (i : ℕ) → first_after t ks ≡ Some i → i ∈ ks
first_among t [] i e = let z : ◌≡◌ {A = ℕ} 0 1 = cc in absurd (omega arith)
first_among t (k ∷ ks) i e = by (is_before t (tick k)) (first_after t ks) (λ j. first_among t ks j) e
  where
    least : (o : Option ℕ) → ((j : ℕ) → o ≡ Some j → j ∈ ks) → min_with k o ∈ (k ∷ ks)
    least None f = Memᴰ.head refl
    least (Some j) f = pick (cases_lt k j)
      where
        pick : (k < j) ⊎ (j ≤ k) → min k j ∈ (k ∷ ks)
        pick (inl l) = Memᴰ.head (min-eq_left {n = k} {m = j} (omega arith))
        pick (inr l) = Memᴰ.tail (subst (λ (x : ℕ). x ∈ ks) (sym (min-eq_right {n = j} {m = k} (omega arith))) (f j refl))

    by : (b : Bool) (o : Option ℕ) → ((j : ℕ) → o ≡ Some j → j ∈ ks) → cond b (Some (min_with k o)) o ≡ Some i → i ∈ (k ∷ ks)
    by true o f e = let z : min_with k o ≡ i = cc in subst (λ (j : ℕ). j ∈ (k ∷ ks)) z (least o f)
    by false o f e = Memᴰ.tail (f i e)

pub break_usual : (w : ℕ) (p : Path) (t : Fraction) (j : Stamp) → Kept w p → at_break (first_after t p.breaks) ≡ Some j → Usual j.time
break_usual w p t j kept e = by (first_after t p.breaks) (λ i. first_among t p.breaks i) e
  where
    by : (o : Option ℕ) → ((i : ℕ) → o ≡ Some i → i ∈ p.breaks) → at_break o ≡ Some j → Usual j.time
    by None f e = let z : ◌≡◌ {A = ℕ} 0 1 = cc in absurd (omega arith)
    by (Some i) f e = let z : at (tick i) ≡ j = cc in subst (λ (k : Stamp). Usual k.time) z (tick_usual i (kept.ends i (f i refl)))

pub leg_slow : (w : ℕ) (p : Path) (t : Fraction) (a : Axis) → w ≤ 8 → Kept w p → nat_abs (leg p t a).slope ≤ 8000
leg_slow w p t a h kept = let z = kept.slopes a (t.num / t.den) in omega arith

-- ---- what always holds
-- a slot of two craft that are in, or of the leg of one that is
abbrev pub Live : (ℕ → Bool) → ℕ → Type 0
Live who s = ((a : Axis) × (c : ℕ) × (d : ℕ) × (c < d) × (who c ≡ true) × (who d ≡ true) × (s ≡ slot a c d)) ⊎ ((c : ℕ) × (who c ≡ true) × (s ≡ leg_slot c))

pub record Good (m : Hall) : Type 0 where
  pub low : (c : ℕ) → in_hall m c ≡ true → c < 64
  pub live : (s : ℕ) (k : Stamp) → m.queue s ≡ Some k → Live (in_hall m) s
  pub neat : (s : ℕ) (k : Stamp) → m.queue s ≡ Some k → Usual k.time
  pub slow : SlowLegs m.craft

-- the slots of c with the other craft, and its leg slot, were written: what is queued now
module _ (c : ℕ) (v : Axis → ℕ → Cell) (l : Option Stamp) (m h : Hall) (hc : c < 64) (z : Moved c (others c m) v l m h) (g : Good m) where
  module _ (in' : ℕ → Bool) (stay : (d : ℕ) → (d ≡ c → ⊥) → in_hall m d ≡ true → in' d ≡ true)
      (v-in : (a : Axis) (d : ℕ) (k : Stamp) → (v a d).1 ≡ Some k → in' c ≡ true) (l-in : (k : Stamp) → l ≡ Some k → in' c ≡ true) where
    pub moved_live : (s : ℕ) (k : Stamp) → h.queue s ≡ Some k → Live in' s
    moved_live s k e = by (same_or_not s (leg_slot c))
      where
        pair_live : (a : Axis) (d : ℕ) → Other c m d → in' c ≡ true → s ≡ slot a c d → Live in' s
        pair_live a d o ic q = go (in_order c d (λ r. o.apart (sym r)))
          where
            id : in' d ≡ true
            id = stay d o.apart o.here

            go : (c < d) ⊎ (d < c) → Live in' s
            go (inl x) = inl (a, c, d, x, ic, id, q)
            go (inr x) = inl (a, d, c, x, id, ic, q ∙ slot_swap a c d)

        old_live : ((a : Axis) (d : ℕ) → d ∈ others c m → s ≡ slot a c d → ⊥) → (s ≡ leg_slot c → ⊥) → Live (in_hall m) s → Live in' s
        old_live none n (inr w) = inr (w.0, stay w.0 (λ r. n (w.2 ∙ ap leg_slot r)) w.1, w.2)
        old_live none n (inl w) =
            let nc : w.1 ≡ c → ⊥ = λ r. none w.0 w.2 (others_in c m w.2 (record { low = g.low w.2 w.5; here = w.5; apart = λ q. omega (arith, w.3, r, q) })) (w.6 ∙ ap (λ (x : ℕ). slot w.0 x w.2) r) in
            let nd : w.2 ≡ c → ⊥ = λ r. none w.0 w.1 (others_in c m w.1 (record { low = g.low w.1 w.4; here = w.4; apart = λ q. omega (arith, w.3, r, q) })) (w.6 ∙ ap (λ (x : ℕ). slot w.0 w.1 x) r ∙ slot_swap w.0 w.1 c) in
            inl (w.0, w.1, w.2, w.3, stay w.1 nc w.4, stay w.2 nd w.5, w.6)

        other : (s ≡ leg_slot c → ⊥) → Wrote (others c m) (λ a d. slot a c d) v (cell m) (cell h) s → Live in' s
        other n (inl w) = pair_live w.0 w.1 (others_out c m w.1 w.2) (v-in w.0 w.1 k (sym (ap (λ (x : Cell). x.1) w.4) ∙ e)) w.3
        other n (inr w) = old_live w.0 n (g.live s k (sym (ap (λ (x : Cell). x.1) w.1) ∙ e))

        by : (s ≡ leg_slot c) ⊎ (s ≡ leg_slot c → ⊥) → Live in' s
        by (inl q) = inr (c, l-in k (sym z.leg ∙ ap h.queue (sym q) ∙ e), q)
        by (inr n) = other n (z.cells s n)

  pub moved_neat : ((a : Axis) (d : ℕ) (k : Stamp) → (v a d).1 ≡ Some k → Usual k.time) → ((k : Stamp) → l ≡ Some k → Usual k.time) → (s : ℕ) (k : Stamp) → h.queue s ≡ Some k → Usual k.time
  moved_neat vu lu s k e = by (same_or_not s (leg_slot c))
    where
      other : Wrote (others c m) (λ a d. slot a c d) v (cell m) (cell h) s → Usual k.time
      other (inl w) = vu w.0 w.1 k (sym (ap (λ (x : Cell). x.1) w.4) ∙ e)
      other (inr w) = g.neat s k (sym (ap (λ (x : Cell). x.1) w.1) ∙ e)

      by : (s ≡ leg_slot c) ⊎ (s ≡ leg_slot c → ⊥) → Usual k.time
      by (inl q) = lu k (sym z.leg ∙ ap h.queue (sym q) ∙ e)
      by (inr n) = other (z.cells s n)
