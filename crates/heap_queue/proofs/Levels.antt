-- The level of a place: how often one goes up from it to reach the root. A heap of 12,352 slots has levels 0 to 13.
use Rattle.std.proofs.Common.{◌≡◌, ℕ, zero, suc, ◌+◌, ◌/◌, ◌^◌, ◌<◌, ◌≤◌, sym, refl, ap, subst, pow-suc, arith}
use Rattle.heap_queue.specs.Heaps.{up}

-- counted up to a bound
abbrev level_in : ℕ → ℕ → ℕ
level_in zero k = 0
level_in (suc n) zero = 0
level_in (suc n) (suc k) = suc (level_in n (k / 2))

unfoldable pub level : ℕ → ℕ
level k = level_in 14 k

within : (n k : ℕ) → level_in n k ≤ n
within zero k = omega arith
within (suc n) zero = omega arith
within (suc n) (suc k) = omega (arith, within n (k / 2))

-- a bound that is large enough does not matter
stable : (n m : ℕ) → m + 1 < 2 ^ n → level_in (suc n) m ≡ level_in n m
stable zero m h = absurd (omega arith)
stable (suc n) zero h = refl
stable (suc n) (suc j) h = ap suc (stable n (j / 2) (omega (arith, pow-suc 2 n)))

falls : (n k : ℕ) → 0 < k → k + 1 < 2 ^ n → level_in n (up k) < level_in n k
falls zero k p h = absurd (omega arith)
falls (suc n) zero p h = absurd (omega arith)
falls (suc n) (suc j) p h =
    let e : up (suc j) ≡ j / 2 = omega arith in
    let s : level_in (suc n) (j / 2) ≡ level_in n (j / 2) = stable n (j / 2) (omega (arith, pow-suc 2 n)) in
    subst (λ (x : ℕ). level_in (suc n) x < suc (level_in n (j / 2))) (sym e) (omega (arith, s))

pub level_small : (k : ℕ) → level k ≤ 14
unfolding level
level_small k = within 14 k

-- one level up
pub level_up : (k : ℕ) → 0 < k → k < 12352 → level (up k) < level k
unfolding level
level_up k p l = falls 14 k p (omega arith)
