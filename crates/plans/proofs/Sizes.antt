-- The size of sums and products.
use Rattle.std.proofs.Common.{◌≡◌, ℕ, ◌+◌, ◌*◌, ◌≤◌, ℤ, pos, ◌+ℤ◌, ◌-ℤ◌, ◌*ℤ◌, neg_ℤ, nat_abs, mul-le-mul, arith}
use borrow.Author.Differences.{ints}
use Rattle.std.proofs.lemmas.Int.{unsigned_abs-mul}

pub times_within : (a : ℤ) (n m k : ℕ) → nat_abs a ≤ m → n ≤ k → nat_abs (a *ℤ pos n) ≤ m * k
times_within a n m k p q = rw (unsigned_abs-mul a (pos n)) (mul-le-mul p q)

pub sum_within : (a b : ℤ) (m n : ℕ) → nat_abs a ≤ m → nat_abs b ≤ n → nat_abs (a +ℤ b) ≤ m + n
sum_within a b m n p q = omega (arith, ints)

pub diff_within : (a b : ℤ) (m n : ℕ) → nat_abs a ≤ m → nat_abs b ≤ n → nat_abs (a -ℤ b) ≤ m + n
diff_within a b m n p q = omega (arith, ints)

pub neg_within : (z : ℤ) (m : ℕ) → nat_abs z ≤ m → nat_abs (neg_ℤ z) ≤ m
neg_within z m h = omega (arith, ints)

pub pair_≡ : {x y z w : ℤ} → x ≡ z → y ≡ w → ◌≡◌ {A = ℤ × ℤ} (x, y) (z, w)
pair_≡ e f = λ i. (e i, f i)
