-- The first wrong moment as the code finds it.
use Rattle.std.proofs.Common.{◌≡◌, ℕ, ◌≤◌, Bool, true, false, cond, not, ℤ, pos, ◌+ℤ◌, ◌-ℤ◌, ◌<ℤ◌, Some, None, Option, Ordering, Less, Equal, Greater, int_cmp, sym, refl, ap, ◌∙◌, arith}
use mathlib.Core.Bool.{beq}
use lib.Signed.{lt_z}
use borrow.Author.Differences.{ints}
use Rattle.std.proofs.lemmas.Cmp.{int_ranked}
use Rattle.rules.specs.Stamps.{Stamp}
use Rattle.rules.specs.Boxes.{overlap, wrong, fails}
use Rattle.rules.proofs.Stamped.{false_true}
use Rattle.times.specs.declared.moment.Moment.{Moment}
use Rattle.times.specs.Of.{moment_of}
use Rattle.times.proofs.Times.{times_usual}
use Rattle.geometry_laws.specs.Quick.{gaining, moving, quick, Solid}
use Rattle.geometry_laws.proofs.Quick.{quick_right}
use Rattle.geometry.specs.declared.span.Span.{Span}
use Rattle.geometry.specs.Of.{span_of}

-- the test of the code is that of the rules
wrong_is : (r bit x : Bool) → r ≡ x → not (beq r bit) ≡ wrong bit x
wrong_is true true true e = refl
wrong_is true false true e = refl
wrong_is false true false e = refl
wrong_is false false false e = refl
wrong_is true bit false e = absurd (false_true (sym e))
wrong_is false bit true e = absurd (false_true e)

solid : (s : Span) → Solid (span_of s)
solid s = record { level = refl; tall = tall s.a s.down.half s.up.half s.down.some }
  where
    tall : (z : ℤ) (x y : ℕ) → 1 ≤ x → (z -ℤ pos x) <ℤ (z +ℤ pos y)
    tall z x y h = omega (arith, ints)

-- which of three is told by the order of two slopes
abbrev ordered : Ordering → Option Stamp → Option Stamp → Option Stamp → Option Stamp
ordered Greater a b c = a
ordered Less a b c = b
ordered Equal a b c = c

by_order : (x y : ℤ) (a b c : Option Stamp) (r : Ordering) → int_cmp x y ≡ r → cond (lt_z y x) a (cond (lt_z x y) b c) ≡ ordered r a b c
by_order x y a b c Greater e = grind (arith, int_ranked x y Greater (sym e))
by_order x y a b c Less e = grind (arith, int_ranked x y Less (sym e))
by_order x y a b c Equal e = grind (arith, int_ranked x y Equal (sym e))

-- r is the code's answer whether the two overlap
module _ (bit : Bool) (p q : Span) (m : Moment) (r : Bool) (o : r ≡ overlap (span_of p) (span_of q) (moment_of m)) where
  quick_is : quick bit (span_of p) (span_of q) (moment_of m) ≡ fails bit (span_of p) (span_of q) (moment_of m)
  quick_is = quick_right bit (span_of p) (span_of q) (moment_of m) (times_usual m.time) (solid p) (solid q)

  told : (b : Bool) → not (beq r bit) ≡ b → cond b (Some (moment_of m)) (moving bit (span_of p) (span_of q) (moment_of m)) ≡ fails bit (span_of p) (span_of q) (moment_of m)
  told b e =
      sym (ap (λ (x : Bool). cond x (Some (moment_of m)) (moving bit (span_of p) (span_of q) (moment_of m))) (sym (wrong_is r bit (overlap (span_of p) (span_of q) (moment_of m)) o) ∙ e))
      ∙ quick_is

  pub now_is : not (beq r bit) ≡ true → Some (moment_of m) ≡ fails bit (span_of p) (span_of q) (moment_of m)
  now_is e = told true e

  -- the first gains on the second, the second on the first, or neither
  pub first_is : not (beq r bit) ≡ false → int_cmp p.v q.v ≡ Greater → gaining bit (span_of p) (span_of q) (moment_of m) ≡ fails bit (span_of p) (span_of q) (moment_of m)
  first_is e f = sym (by_order p.v q.v _ _ _ Greater f) ∙ told false e

  pub second_is : not (beq r bit) ≡ false → int_cmp p.v q.v ≡ Less → gaining bit (span_of q) (span_of p) (moment_of m) ≡ fails bit (span_of p) (span_of q) (moment_of m)
  second_is e f = sym (by_order p.v q.v _ _ _ Less f) ∙ told false e

  pub never_is : not (beq r bit) ≡ false → int_cmp p.v q.v ≡ Equal → None ≡ fails bit (span_of p) (span_of q) (moment_of m)
  never_is e f = sym (by_order p.v q.v _ _ _ Equal f) ∙ told false e
