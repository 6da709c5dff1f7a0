-- Sums, products and order on ℤ.
use Rattle.std.proofs.Common.{◌≡◌, ℕ, zero, suc, ◌+◌, ◌*◌, ◌<◌, ◌≤◌, ℤ, pos, negsuc, ◌+ℤ◌, ◌*ℤ◌, neg_ℤ, ◌≤ℤ◌, ◌<ℤ◌, ap, mul-le-mul_right, mul-lt-mul_of_pos_right, arith}
use borrow.Author.Differences.{ints, up, down, sum_is_lem, product_is}

pub add_≤ : (a b c : ℤ) → a ≤ℤ b → (a +ℤ c) ≤ℤ (b +ℤ c)
add_≤ a b c h = omega (arith, ints)

pub distr : (a b c : ℤ) → (a +ℤ b) *ℤ c ≡ (a *ℤ c) +ℤ (b *ℤ c)
distr a b c = omega (arith, ints, ap (λ (x : ℕ). x * up c) (sum_is_lem a b), ap (λ (x : ℕ). x * down c) (sum_is_lem a b))

pub distl : (a b c : ℤ) → a *ℤ (b +ℤ c) ≡ (a *ℤ b) +ℤ (a *ℤ c)
distl a b c = omega (arith, ints, ap (λ (x : ℕ). x * up a) (sum_is_lem b c), ap (λ (x : ℕ). x * down a) (sum_is_lem b c))

pub assoc : (a b c : ℤ) → (a *ℤ b) *ℤ c ≡ a *ℤ (b *ℤ c)
assoc a b c =
    omega (
      arith,
      ints,
      ap (λ (x : ℕ). x * up c) (product_is a b).0,
      ap (λ (x : ℕ). x * down c) (product_is a b).0,
      ap (λ (x : ℕ). x * up c) (product_is a b).1,
      ap (λ (x : ℕ). x * down c) (product_is a b).1,
      ap (λ (x : ℕ). up a * x) (product_is b c).0,
      ap (λ (x : ℕ). down a * x) (product_is b c).0,
      ap (λ (x : ℕ). up a * x) (product_is b c).1,
      ap (λ (x : ℕ). down a * x) (product_is b c).1,
    )

pub mul_≤ : (a b : ℤ) (k : ℕ) → a ≤ℤ b → (a *ℤ pos k) ≤ℤ (b *ℤ pos k)
mul_≤ a b k h =
    let h' : up a + down b ≤ up b + down a = omega (arith, ints) in
    omega (arith, ints, mul-le-mul_right k h')

pub mul_< : (a b : ℤ) (k : ℕ) → 0 < k → a <ℤ b → (a *ℤ pos k) <ℤ (b *ℤ pos k)
mul_< a b k p h =
    let h' : up a + down b < up b + down a = omega (arith, ints) in
    omega (arith, ints, mul-lt-mul_of_pos_right h' p)

pub neg_times : (z w : ℤ) → neg_ℤ z *ℤ w ≡ neg_ℤ (z *ℤ w)
neg_times (pos zero) w = omega (arith, ints)
neg_times (pos (suc z)) w = omega (arith, ints)
neg_times (negsuc z) w = omega (arith, ints)
