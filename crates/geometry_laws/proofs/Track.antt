-- Bits and their certificates as the present moves on.
use Rattle.std.proofs.Common.{◌≡◌, Bool, true, false, not, IfSome, Some, None, Option, sym, refl, ◌∙◌}
use Rattle.rules.specs.Fractions.{Proper, NotAfter, tick}
use Rattle.rules.specs.Stamps.{Stamp, Earlier, NotEarlier}
use Rattle.rules.specs.Boxes.{Ends, overlap, wrong, FirstWrong, NeverWrong, Fails}
use Rattle.rules.proofs.Stamped.{not_earlier_trans, false_true}
use Rattle.geometry_laws.specs.Points.{Tells, Wrong}
use Rattle.geometry_laws.proofs.Lists.{not_earlier_is, not_is_earlier, earlier_is}

-- a bit that is not wrong tells what is so
pub not_wrong : (bit x : Bool) → wrong bit x ≡ false → x ≡ bit
not_wrong true true e = refl
not_wrong true false e = absurd (false_true (sym e))
not_wrong false true e = absurd (false_true (sym e))
not_wrong false false e = refl

pub is_wrong : (bit x : Bool) → wrong bit x ≡ true → x ≡ not bit
is_wrong true true e = absurd (false_true e)
is_wrong true false e = refl
is_wrong false true e = refl
is_wrong false false e = absurd (false_true e)

-- the same as facts
pub tells_fact : (bit x : Bool) → wrong bit x ≡ false → Tells bit (x ≡ true)
tells_fact true x e = not_wrong true x e
tells_fact false x e = λ f. false_true (sym (not_wrong false x e) ∙ f)

pub wrong_fact : (bit x : Bool) → wrong bit x ≡ true → Wrong bit (x ≡ true)
wrong_fact true x e = λ f. false_true (sym (is_wrong true x e) ∙ f)
wrong_fact false x e = is_wrong false x e

pub fact_tells : (bit x : Bool) → Tells bit (x ≡ true) → wrong bit x ≡ false
fact_tells true true f = refl
fact_tells true false f = absurd (false_true f)
fact_tells false true f = absurd (f refl)
fact_tells false false f = refl

module _ (bit : Bool) (p q : Ends) (m : Stamp) where
  -- the bit tells the truth until its certificate fails
  pub tells_until : (k j : Stamp) → FirstWrong bit p q m k → Proper j.time → NotEarlier j m → Earlier j k → overlap p q j ≡ bit
  tells_until k j x pj s e = not_wrong bit (overlap p q j) (x.right_before j pj (not_earlier_is j m s) (earlier_is j k e))

  pub tells_always : (j : Stamp) → NeverWrong bit p q m → Proper j.time → NotAfter j.time (tick 50000) → NotEarlier j m → overlap p q j ≡ bit
  tells_always j x pj i s = not_wrong bit (overlap p q j) (x j pj i (not_earlier_is j m s))

  -- a first wrong moment stays first as the present moves up to it
  module _ (n : Stamp) (pm : Proper m.time) (pn : Proper n.time) (h : NotEarlier n m) where
    pub first_advance : (k : Stamp) → NotEarlier k n → FirstWrong bit p q m k → FirstWrong bit p q n k
    first_advance k g x = record {
      proper = x.proper;
      inside = x.inside;
      since = not_earlier_is k n g;
      wrong_then = x.wrong_then;
      right_before = λ j pj s e. x.right_before j pj (not_earlier_is j m (not_earlier_trans m n j pm pn pj h (not_is_earlier j n s))) e;
    }

    pub never_advance : NeverWrong bit p q m → NeverWrong bit p q n
    never_advance x j pj i s = x j pj i (not_earlier_is j m (not_earlier_trans m n j pm pn pj h (not_is_earlier j n s)))

    pub fails_advance : (r : Option Stamp) → IfSome r (λ k. NotEarlier k n) → Fails bit p q m r → Fails bit p q n r
    fails_advance None g x = never_advance x
    fails_advance (Some k) g x = first_advance k g x
