-- Sums and products of the code, and that they fit.
use Rattle.std.proofs.Common.{◌≡◌, ℕ, ◌*◌, ◌^◌, ◌<◌, ◌≤◌, ℤ, pos, negsuc, ◌+ℤ◌, ◌-ℤ◌, ◌*ℤ◌, nat_abs, sym, ap, ◌∙◌, subst, ap₂, mul-le-mul, arith, w32, w64, SFits, to_z, of_z}
use Rattle.std.proofs.lemmas.Int.{to_z-of_z}
use borrow.Author.Differences.{ints, up, down}

-- a number that went to its bits and is read again
abbrev pub back : ℤ → ℤ
back z = to_z w64 (of_z w64 z)

-- -m ≤ z ≤ m
abbrev In : ℕ → ℤ → Type 0
In m z = (up z ≤ m) × (down z ≤ m)

in_abs : (m : ℕ) (z : ℤ) → nat_abs z ≤ m → In m z
in_abs m (pos n) h = omega arith
in_abs m (negsuc n) h = omega arith

in_times : (z : ℤ) (n m k : ℕ) → In m z → n ≤ k → (up z * n ≤ m * k) × (down z * n ≤ m * k)
in_times z n m k h l = (mul-le-mul h.0 l, mul-le-mul h.1 l)

in_fits : (m : ℕ) (z : ℤ) → m < 2 ^ 63 → In m z → SFits w64 z
in_fits m z b i = omega (arith, ints, i)

back_is : (m : ℕ) (z : ℤ) → m < 2 ^ 63 → In m z → back z ≡ z
back_is m z b i = to_z-of_z w64 z (in_fits m z b i)

-- the product of a signed number and a cast natural, as the code has it
module _ (a x : ℤ) (n m k : ℕ) (h : nat_abs a ≤ m) (e : x ≡ pos n) (l : n ≤ k) (bm : m < 2 ^ 62) (bk : k < 2 ^ 62) (b : m * k < 2 ^ 62) where
  prod_is : back a *ℤ back x ≡ a *ℤ pos n
  prod_is = ap₂ ◌*ℤ◌ (back_is m a (omega arith) (in_abs m a h)) (ap back e ∙ back_is k (pos n) (omega arith) (l, omega arith))

  prod_back : back (back a *ℤ back x) ≡ a *ℤ pos n
  prod_back = ap back prod_is ∙ to_z-of_z w64 (a *ℤ pos n) (omega (arith, ints, in_times a n m k (in_abs m a h) l))

-- the value of a gap's line at a time, as the code has it
module _ (a x v y : ℤ) (d n : ℕ) (ha : nat_abs a ≤ 4294970000) (e : x ≡ pos d) (hd : d ≤ 16000) (hv : nat_abs v ≤ 4294967295) (f : y ≡ pos n) (hn : n ≤ 800000000) where
  sum_is : back (back a *ℤ back x) +ℤ back (back v *ℤ back y) ≡ (a *ℤ pos d) +ℤ (v *ℤ pos n)
  sum_is =
      ap₂ ◌+ℤ◌ (prod_back a x d 4294970000 16000 ha e hd (omega arith) (omega arith) (omega arith))
      (prod_back v y n 4294967295 800000000 hv f hn (omega arith) (omega arith) (omega arith))

  pub line_fits : SFits w64 (back (back a *ℤ back x) +ℤ back (back v *ℤ back y))
  line_fits =
      subst (λ (z : ℤ). SFits w64 z) (sym sum_is)
      (omega (arith, ints, in_times a d 4294970000 16000 (in_abs 4294970000 a ha) hd, in_times v n 4294967295 800000000 (in_abs 4294967295 v hv) hn))

  pub line_is : back (back (back a *ℤ back x) +ℤ back (back v *ℤ back y)) ≡ (a *ℤ pos d) +ℤ (v *ℤ pos n)
  line_is = to_z-of_z w64 (back (back a *ℤ back x) +ℤ back (back v *ℤ back y)) line_fits ∙ sum_is

-- a number of 32 bits
wide : (z : ℤ) → SFits w32 z → In 2147483648 z
wide z f = omega (arith, ints)

-- what lies between x and y, less the reaches d and u, as the code has it
module _ (x y z r s : ℤ) (d u : ℕ) (fx : SFits w32 x) (fy : SFits w32 y) (hd : d ≤ 1000) (hu : u ≤ 1000) (ez : z ≡ x -ℤ y) (er : r ≡ pos d) (es : s ≡ pos u) where
  reach_is : back (back r +ℤ back s) ≡ pos d +ℤ pos u
  reach_is =
      ap back (ap₂ ◌+ℤ◌ (ap back er ∙ back_is 1000 (pos d) (omega arith) (hd, omega arith)) (ap back es ∙ back_is 1000 (pos u) (omega arith) (hu, omega arith)))
      ∙ to_z-of_z w64 (pos d +ℤ pos u) (omega (arith, ints))

  apart_is : back z ≡ x -ℤ y
  apart_is = ap back ez ∙ to_z-of_z w64 (x -ℤ y) (omega (arith, ints, wide x fx, wide y fy))

  pub gap_is : back (back z -ℤ back (back r +ℤ back s)) ≡ (x -ℤ pos d) -ℤ (y +ℤ pos u)
  gap_is =
      ap back (ap₂ ◌-ℤ◌ apart_is reach_is)
      ∙ to_z-of_z w64 ((x -ℤ y) -ℤ (pos d +ℤ pos u)) (omega (arith, ints, wide x fx, wide y fy))
      ∙ omega (arith, ints)
