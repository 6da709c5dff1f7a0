-- The same moment, named twice.
use Rattle.std.proofs.Common.{◌≡◌, ◌≤◌, Bool, true, false, ◌⊎◌, sym, refl, ◌∙◌, inl, inr, arith}
use Rattle.rules.specs.Fractions.{Fraction, Proper, Before, SameTime}
use Rattle.rules.specs.Stamps.{Stamp, Earlier, NotEarlier, side, at, just_after}
use Rattle.rules.specs.Paths.{Line}
use Rattle.rules.specs.Boxes.{Ends, overlap}
use Rattle.rules.proofs.Stamped.{not_earlier_out}
use Rattle.geometry_laws.proofs.Lines.{Pos, same_time_<, same_time_≡}
use Rattle.geometry_laws.proofs.Behind.{over, under, overlap_like}

-- neither is earlier: one time, one side
pub at_once_time : (j k : Stamp) → NotEarlier k j → NotEarlier j k → SameTime j.time k.time × (j.after ≡ k.after)
at_once_time j k a b = go (not_earlier_out j k a) (not_earlier_out k j b)
  where
    sides : (x y : Bool) → side x ≤ side y → side y ≤ side x → x ≡ y
    sides true true h g = refl
    sides false false h g = refl
    sides true false h g = absurd (omega arith)
    sides false true h g = absurd (omega arith)

    go : (Before j.time k.time) ⊎ (SameTime j.time k.time × (side j.after ≤ side k.after)) →
        (Before k.time j.time) ⊎ (SameTime k.time j.time × (side k.after ≤ side j.after)) → SameTime j.time k.time × (j.after ≡ k.after)
    go (inl a) (inl b) = absurd (omega arith)
    go (inl a) (inr b) = absurd (omega (arith, b.0))
    go (inr a) (inl b) = absurd (omega (arith, a.0))
    go (inr a) (inr b) = (a.0, sides j.after k.after a.1 b.1)

pub pos_same : (l : Line) (j k : Stamp) → Proper j.time → Proper k.time → SameTime j.time k.time → j.after ≡ k.after → Pos l j → Pos l k
pos_same l j k pj pk e f (inl x) = inl (same_time_< l j.time k.time pj pk e x)
pos_same l j k pj pk e f (inr x) = inr (sym f ∙ x.0, same_time_≡ l j.time k.time pj pk e x.1, x.2)

pub overlap_same : (p q : Ends) (j k : Stamp) → Proper j.time → Proper k.time → SameTime j.time k.time → j.after ≡ k.after → overlap p q j ≡ overlap p q k
overlap_same p q j k pj pk e f =
    overlap_like p q j k (pos_same (over p q) j k pj pk e f) (pos_same (over p q) k j pk pj (sym e) (sym f)) (pos_same (under p q) j k pj pk e f) (pos_same (under p q) k j pk pj (sym e) (sym f))

-- the two sides of a time stand next to each other
pub at_first : (t : Fraction) → Earlier (at t) (just_after t)
at_first t = inr (refl, omega arith)

pub not_between : (m : Stamp) (t : Fraction) → Earlier m (just_after t) → NotEarlier (at t) m
not_between m t (inl x) (inl y) = omega arith
not_between m t (inl x) (inr y) = omega (arith, y.0)
not_between m t (inr x) (inl y) = omega (arith, x.0)
not_between m t (inr x) (inr y) = omega (arith, x.1, y.1)

-- what comes before side 0 of a time comes before the time
pub at_after : (m : Stamp) (t : Fraction) → Earlier m (at t) → Before m.time t
at_after m t (inl x) = x
at_after m t (inr x) = absurd (omega (arith, x.1))

pub not_yet : (m : Stamp) (t : Fraction) → Before m.time t → NotEarlier (at t) m
not_yet m t b (inl x) = omega arith
not_yet m t b (inr x) = omega (arith, x.0)
