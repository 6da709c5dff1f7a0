-- Which slots are taken: those of the entered pairs and craft.
use Rattle.std.proofs.Common.{◌≡◌, ℕ, ◌+◌, ◌-◌, ◌*◌, ◌<◌, ◌≤◌, min, max, Bool, true, false, cond, not, ◌&&◌, ltb, ◌⊎◌, List, [], ◌∷◌, ◌++◌, map, refl, ap, ◌∙◌, subst, inl, inr, arith, ltb-false, ltb-true}
use mathlib.Core.List.Memᴰ
use Rattle.rules.specs.Basics.{◌∈◌, put, InTurn}
use Rattle.rules.specs.Paths.{Axis, X, Y, Z}
use Rattle.rules.specs.Slots.{rank, slot, leg_slot}
use Rattle.model.specs.Moves.{axis_of, lower_of, higher_of}
use Rattle.accounts.proofs.Puts.{put_here, put_other, same_or_not, turn_append, turn_one, turn_map}

-- whether a slot is that of an entered pair or craft, where E tells who is entered
abbrev pub wanted : (ℕ → Bool) → ℕ → Bool
wanted E s = cond (ltb s 12288) (E (lower_of s) && E (higher_of s) && ltb (lower_of s) (higher_of s)) (E (s - 12288))

-- SLOTS TAKEN OR EMPTIED, ONE AFTER ANOTHER

abbrev pub set_all : Bool → List ℕ → (ℕ → Bool) → ℕ → Bool
set_all v [] W = W
set_all v (s ∷ ss) W = set_all v ss (put W s v)

-- each slot is not yet so when its turn comes
abbrev pub Ready : Bool → List ℕ → (ℕ → Bool) → Type 0
Ready v [] W = Unit
Ready v (s ∷ ss) W = (W s ≡ not v) × Ready v ss (put W s v)

abbrev pub Apart : List ℕ → Type 0
Apart = InTurn (λ (x y : ℕ). x < y)

pub ready : (v : Bool) (ss : List ℕ) (W : ℕ → Bool) → ((s : ℕ) → s ∈ ss → W s ≡ not v) → Apart ss → Ready v ss W
ready v [] W h a = tt
ready v (s ∷ ss) W h a = (h s (Memᴰ.head refl), ready v ss (put W s v) (λ t e. put_other W s v t (λ q. let g = a.0 t e in omega arith) ∙ h t (Memᴰ.tail e)) a.1)

-- what is so of a slot after all
pub settled : (v : Bool) (ss : List ℕ) (W : ℕ → Bool) (s : ℕ) → ((s ∈ ss) × (set_all v ss W s ≡ v)) ⊎ ((s ∈ ss → ⊥) × (set_all v ss W s ≡ W s))
settled v [] W s = inr (λ e. Memᴰ.not-nil e, refl)
settled v (t ∷ ts) W s = by (settled v ts (put W t v) s) (same_or_not s t)
  where
    by : ((s ∈ ts) × (set_all v ts (put W t v) s ≡ v)) ⊎ ((s ∈ ts → ⊥) × (set_all v ts (put W t v) s ≡ put W t v s)) → (s ≡ t) ⊎ (s ≡ t → ⊥) →
        ((s ∈ (t ∷ ts)) × (set_all v ts (put W t v) s ≡ v)) ⊎ ((s ∈ (t ∷ ts) → ⊥) × (set_all v ts (put W t v) s ≡ W s))
    by (inl h) q = inl (Memᴰ.tail h.0, h.1)
    by (inr h) (inl q) = inl (Memᴰ.head q, h.1 ∙ ap (put W t v) q ∙ put_here W t v)
    by (inr h) (inr q) = inr (λ e. out (Memᴰ.cases_cons e), h.1 ∙ put_other W t v s q)
      where
        out : (s ≡ t) ⊎ (s ∈ ts) → ⊥
        out (inl r) = q r
        out (inr r) = h.0 r

-- THE NUMBERS OF SLOTS

pub slot_lower : (a : Axis) (c d : ℕ) → c < 64 → d < 64 → lower_of (slot a c d) ≡ min c d
slot_lower X c d p q = omega arith
slot_lower Y c d p q = omega arith
slot_lower Z c d p q = omega arith

pub slot_higher : (a : Axis) (c d : ℕ) → c < 64 → d < 64 → higher_of (slot a c d) ≡ max c d
slot_higher X c d p q = omega arith
slot_higher Y c d p q = omega arith
slot_higher Z c d p q = omega arith

-- slots of an axis lie together
pub slot_low : (a : Axis) (c d : ℕ) → 4096 * rank a ≤ slot a c d
slot_low a c d = omega arith

pub slot_high : (a : Axis) (c d : ℕ) → c < 64 → d < 64 → slot a c d < 4096 * rank a + 4096
slot_high a c d p q = omega arith

pub slot_pair : (a : Axis) (c d : ℕ) → c < 64 → d < 64 → slot a c d < 12288
slot_pair X c d p q = omega arith
slot_pair Y c d p q = omega arith
slot_pair Z c d p q = omega arith

-- a craft's slots rise with the other craft
pub slot_rises : (a : Axis) (c d e : ℕ) → c < 64 → d < 64 → e < 64 → d < e → slot a c d < slot a c e
slot_rises a c d e p q r h = omega arith

-- a slot is that of what it names
pub slot_named : (s : ℕ) → s < 12288 → lower_of s ≤ higher_of s → slot (axis_of s) (lower_of s) (higher_of s) ≡ s
slot_named s p q = by (ltb s 4096) (ltb s 8192) refl refl
  where
    by : (x y : Bool) → ltb s 4096 ≡ x → ltb s 8192 ≡ y → slot (cond x X (cond y Y Z)) (lower_of s) (higher_of s) ≡ s
    by true y e g = let h = ltb-true s 4096 e in omega arith
    by false true e g = let h = ltb-false s 4096 e in let k = ltb-true s 8192 g in omega arith
    by false false e g = let h = ltb-false s 8192 g in omega arith

-- THE SLOTS OF ONE CRAFT, in the order of the moves

abbrev pub axis_slots : ℕ → List ℕ → Axis → List ℕ
axis_slots c ds a = map (slot a c) ds

abbrev pub craft_slots : ℕ → List ℕ → List ℕ
craft_slots c ds = axis_slots c ds X ++ (axis_slots c ds Y ++ (axis_slots c ds Z ++ (leg_slot c ∷ [])))

-- others: in range, ascending, and not c
pub record Others (c : ℕ) (ds : List ℕ) : Type 0 where
  pub self : c < 64
  pub range : (d : ℕ) → d ∈ ds → d < 64
  pub apart : Apart ds
  pub not_self : (d : ℕ) → d ∈ ds → d ≡ c → ⊥

module _ (c : ℕ) (ds : List ℕ) (o : Others c ds) where
  pub in_axis : (a : Axis) (s : ℕ) → s ∈ axis_slots c ds a → (d : ℕ) × (d ∈ ds) × (slot a c d ≡ s)
  in_axis a s e = let w = Memᴰ.of_map (slot a c) ds e in (w.0, w.1, w.2)

  pub axis_range : (a : Axis) (s : ℕ) → s ∈ axis_slots c ds a → (4096 * rank a ≤ s) × (s < 4096 * rank a + 4096)
  axis_range a s e =
      let w = in_axis a s e in
      let h = slot_low a c w.0 in
      let k = slot_high a c w.0 o.self (o.range w.0 w.1) in
      let q : slot a c w.0 ≡ s = w.2 in
      (subst (λ (t : ℕ). 4096 * rank a ≤ t) q h, subst (λ (t : ℕ). t < 4096 * rank a + 4096) q k)

  pub axis_apart : (a : Axis) → Apart (axis_slots c ds a)
  axis_apart a = turn_map (λ (x y : ℕ). x < y) (λ (x y : ℕ). x < y) (slot a c) ds (λ d e p q h. slot_rises a c d e o.self (o.range d p) (o.range e q) h) o.apart

  pub craft_apart : Apart (craft_slots c ds)
  craft_apart =
      turn_append R (axis_slots c ds X) _ (axis_apart X)
      (turn_append R (axis_slots c ds Y) _ (axis_apart Y)
      (turn_append R (axis_slots c ds Z) _ (axis_apart Z) (turn_one R (leg_slot c)) (λ x y p q. let g = axis_range Z x p in let k : y ≡ leg_slot c = Memᴰ.eq_of_singleton q in omega arith))
      (λ x y p q. let g = axis_range Y x p in let k = z_later y (Memᴰ.append_cases (axis_slots c ds Z) q) in omega arith))
      (λ x y p q. let g = axis_range X x p in let k = y_later y (Memᴰ.append_cases (axis_slots c ds Y) q) in omega arith)
    where
      R : ℕ → ℕ → Type 0
      R x y = x < y

      z_later : (y : ℕ) → (y ∈ axis_slots c ds Z) ⊎ (y ∈ (leg_slot c ∷ [])) → 8192 ≤ y
      z_later y (inl e) = let g = axis_range Z y e in omega arith
      z_later y (inr e) = let k : y ≡ leg_slot c = Memᴰ.eq_of_singleton e in omega arith

      y_later : (y : ℕ) → (y ∈ axis_slots c ds Y) ⊎ (y ∈ (axis_slots c ds Z ++ (leg_slot c ∷ []))) → 4096 ≤ y
      y_later y (inl e) = let g = axis_range Y y e in omega arith
      y_later y (inr e) = let k = z_later y (Memᴰ.append_cases (axis_slots c ds Z) e) in omega arith
