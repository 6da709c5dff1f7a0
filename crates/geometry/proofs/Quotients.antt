-- Gaps and quotients as the rules have them.
use Rattle.std.proofs.Common.{◌≡◌, Bool, not, ◌&&◌, ◌||◌, ℤ, pos, ◌-ℤ◌, neg_ℤ, sym, refl, ap, ◌∙◌, arith}
use lib.Signed.{lt_z}
use borrow.Author.Differences.{ints}
use Rattle.rules.specs.Stamps.{Stamp}
use Rattle.rules.specs.Paths.{Line, value}
use Rattle.rules.specs.Boxes.{behind, quotient}
use Rattle.geometry_laws.specs.Quick.{sided, met}
use Rattle.geometry_laws.proofs.Behind.{value_diff}
use Rattle.geometry_laws.proofs.Settled.{other_way}
use Rattle.geometry.specs.Of.{difference, above_zero}

-- one end is behind another where their difference is above zero
pub above_behind : (u v : Line) (m : Stamp) → above_zero (difference u v) m ≡ behind u v m
above_behind u v m =
    let e = value_diff u v m.time in
    join (lt_diff (value u m.time) (value v m.time) (value (difference u v) m.time) e) (gt_diff (value u m.time) (value v m.time) (value (difference u v) m.time) e) (lt_diff u.slope v.slope (u.slope -ℤ v.slope) refl)
  where
    lt_diff : (x y z : ℤ) → z ≡ x -ℤ y → lt_z (pos 0) z ≡ lt_z y x
    lt_diff x y z e = grind (arith, ints)

    gt_diff : (x y z : ℤ) → z ≡ x -ℤ y → lt_z z (pos 0) ≡ lt_z x y
    gt_diff x y z e = grind (arith, ints)

    join : {a b c d e f : Bool} → a ≡ b → c ≡ d → e ≡ f → (a || (m.after && not c && e)) ≡ (b || (m.after && not d && f))
    join p q r = cc

-- where a difference is zero the two ends have one value
pub closes_is : (u v l : Line) (s : Bool) → l ≡ difference u v → sided s (quotient (neg_ℤ l.base) l.slope) ≡ met u v s
closes_is u v l s e =
    ap (λ (k : Line). sided s (quotient (neg_ℤ k.base) k.slope)) e ∙ ap (λ (x : ℤ). sided s (quotient x (u.slope -ℤ v.slope))) (sym (other_way u.base v.base))
