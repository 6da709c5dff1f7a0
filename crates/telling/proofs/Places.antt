-- Slots of different pairs, axes and craft differ.
use Rattle.std.proofs.Common.{◌≡◌, ℕ, ◌+◌, ◌*◌, ◌<◌, ◌≤◌, Bool, true, false, ltb, ◌⊎◌, sym, refl, ap, ◌∙◌, inl, inr, arith, ltb-false, ltb-true, le-ltb, lt-ltb}
use native.Mathlib.Nat.{min-eq_left, max-eq_right, min_comm, max_comm}
use Rattle.rules.specs.Paths.{Axis, X, Y, Z}
use Rattle.rules.specs.Slots.{rank, slot, leg_slot}
use Rattle.model.specs.Moves.{axis_of, lower_of, higher_of}

-- of two craft, the lower and the higher
pub slot_swap : (a : Axis) (c d : ℕ) → slot a c d ≡ slot a d c
slot_swap a c d = λ i. 4096 * rank a + 64 * min_comm c d i + max_comm c d i

pub slot_is : (a : Axis) (c d : ℕ) → c < d → slot a c d ≡ 4096 * rank a + 64 * c + d
slot_is a c d h = λ i. 4096 * rank a + 64 * min-eq_left {n = c} {m = d} (omega arith) i + max-eq_right {n = c} {m = d} (omega arith) i

rank_low : (a : Axis) → rank a ≤ 2
rank_low X = omega arith
rank_low Y = omega arith
rank_low Z = omega arith

pub slot_low : (a : Axis) (c d : ℕ) → c < d → d < 64 → slot a c d < 12288
slot_low a c d h g = let z = slot_is a c d h in let r = rank_low a in omega arith

pub slot_axis : (a : Axis) (c d : ℕ) → c < d → d < 64 → axis_of (slot a c d) ≡ a
slot_axis a c d h g = go a (slot_is a c d h)
  where
    go : (a : Axis) → slot a c d ≡ 4096 * rank a + 64 * c + d → axis_of (slot a c d) ≡ a
    go X e = rw (lt-ltb (slot X c d) 4096 (omega arith))
    go Y e = rw (le-ltb (slot Y c d) 4096 (omega arith), lt-ltb (slot Y c d) 8192 (omega arith))
    go Z e = rw (le-ltb (slot Z c d) 4096 (omega arith), le-ltb (slot Z c d) 8192 (omega arith))

pub slot_lower : (a : Axis) (c d : ℕ) → c < d → d < 64 → lower_of (slot a c d) ≡ c
slot_lower a c d h g = let z = slot_is a c d h in omega arith

pub slot_higher : (a : Axis) (c d : ℕ) → c < d → d < 64 → higher_of (slot a c d) ≡ d
slot_higher a c d h g = let z = slot_is a c d h in omega arith

pub slot_one : (a b : Axis) (c d e f : ℕ) → c < d → d < 64 → e < f → f < 64 → slot a c d ≡ slot b e f → (a ≡ b) × (c ≡ e) × (d ≡ f)
slot_one a b c d e f h g p q s = (
  sym (slot_axis a c d h g) ∙ ap axis_of s ∙ slot_axis b e f p q,
  sym (slot_lower a c d h g) ∙ ap lower_of s ∙ slot_lower b e f p q,
  sym (slot_higher a c d h g) ∙ ap higher_of s ∙ slot_higher b e f p q,
)

-- of two different craft one is the lower: what holds of both orders
pub in_order : (c d : ℕ) → (c ≡ d → ⊥) → (c < d) ⊎ (d < c)
in_order c d n = go (ltb c d) refl
  where
    go : (b : Bool) → ltb c d ≡ b → (c < d) ⊎ (d < c)
    go true e = inl (ltb-true c d e)
    go false e = let h = ltb-false c d e in inr (omega arith)

-- the slots of one craft on an axis, by the other craft
pub slot_other : (a b : Axis) (c d e : ℕ) → c < 64 → d < 64 → e < 64 → (c ≡ d → ⊥) → (c ≡ e → ⊥) → slot a c d ≡ slot b c e → (a ≡ b) × (d ≡ e)
slot_other a b c d e hc hd he nd ne s = go (in_order c d nd) (in_order c e ne)
  where
    go : (c < d) ⊎ (d < c) → (c < e) ⊎ (e < c) → (a ≡ b) × (d ≡ e)
    go (inl p) (inl q) = let z = slot_one a b c d c e p hd q he s in (z.0, z.2)
    go (inl p) (inr q) = let z = slot_one a b c d e c p hd q hc (s ∙ slot_swap b c e) in absurd (omega (arith, z.1))
    go (inr p) (inl q) = let z = slot_one a b d c c e p hc q he (slot_swap a d c ∙ s) in absurd (omega (arith, z.1))
    go (inr p) (inr q) = let z = slot_one a b d c e c p hc q hc (slot_swap a d c ∙ s ∙ slot_swap b c e) in (z.0, z.1)

-- the slot of a pair without c is none of c's
pub slot_apart : (a b : Axis) (c d e f : ℕ) → c < 64 → d < 64 → e < f → f < 64 → (c ≡ d → ⊥) → (c ≡ e → ⊥) → (c ≡ f → ⊥) → slot a e f ≡ slot b c d → ⊥
slot_apart a b c d e f hc hd p hf n ne nf s = go (in_order c d n)
  where
    go : (c < d) ⊎ (d < c) → ⊥
    go (inl q) = let z = slot_one a b e f c d p hf q hd s in ne (sym z.1)
    go (inr q) = let z = slot_one a b e f d c p hf q hc (s ∙ slot_swap b c d) in nf (sym z.2)

-- any pair's slot lies below the slots of legs
pub slot_leg : (a : Axis) (c d e : ℕ) → c < 64 → d < 64 → (c ≡ d → ⊥) → slot a c d ≡ leg_slot e → ⊥
slot_leg a c d e hc hd n s = go (in_order c d n)
  where
    go : (c < d) ⊎ (d < c) → ⊥
    go (inl p) = let z = slot_low a c d p hd in omega arith
    go (inr p) = let z = slot_low a d c p hc in let y = slot_swap a c d in omega arith
