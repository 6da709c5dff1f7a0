-- Slots, and what a queue means: for each slot one moment or nothing.
use Rattle.std.specs.Prelude.{◌≡◌, ℕ, zero, suc, ◌+◌, ◌*◌, ◌≤◌, min, max, false, cond, Some, None, Option}
use Rattle.rules.specs.Stamps.{Stamp, is_earlier}
use Rattle.rules.specs.Paths.{Axis, X, Y, Z}

-- slots: of a bit's certificate, and of a leg certificate
abbrev pub rank : Axis → ℕ
rank X = 0
rank Y = 1
rank Z = 2

abbrev pub slot : Axis → ℕ → ℕ → ℕ
slot a c d = 4096 * rank a + 64 * min c d + max c d

abbrev pub leg_slot : ℕ → ℕ
leg_slot c = 12288 + c

-- what a queue holds
abbrev pub Queue : Type 0
Queue = ℕ → Option Stamp

-- the better of the best so far and one slot more
abbrev pub sooner : Option (ℕ × Stamp) → ℕ → Option Stamp → Option (ℕ × Stamp)
sooner best s None = best
sooner None s (Some k) = Some (s, k)
sooner (Some b) s (Some k) = cond (is_earlier k b.1) (Some (s, k)) (Some b)

abbrev pub first_below : ℕ → Queue → Option (ℕ × Stamp)
first_below zero q = None
first_below (suc n) q = sooner (first_below n q) n (q n)

-- the queue's first, computed
abbrev pub first : Queue → Option (ℕ × Stamp)
first = first_below 12352

-- what that comes to: the slot with the least moment, the lowest slot among equals
pub record LeastSlot (q : Queue) (s : ℕ) (m : Stamp) : Type 0 where
  pub here : q s ≡ Some m
  pub least : (k : ℕ) (n : Stamp) → q k ≡ Some n → is_earlier n m ≡ false
  pub lowest : (k : ℕ) (n : Stamp) → q k ≡ Some n → is_earlier m n ≡ false → s ≤ k

abbrev pub First : Queue → Option (ℕ × Stamp) → Type 0
First q None = (k : ℕ) → q k ≡ None
First q (Some p) = LeastSlot q p.0 p.1
