-- The order of moments.
use Rattle.std.proofs.Common.{◌≡◌, ◌⊎◌, sym, refl, ap, subst, inl, inr, arith}
use Rattle.rules.specs.Fractions.{Fraction, Proper, SameTime}
use Rattle.rules.specs.Stamps.{Stamp, Earlier, side}
use Rattle.rules.proofs.Stamped.{asym, earlier_trans, earlier_dec, not_earlier_trans}
use Rattle.geometry_laws.specs.Points.{Point, Sooner, Upto, AtOnce, Same, on, past}
use Rattle.geometry_laws.proofs.Moments as moment

pub sooner_dec : (j k : Point) → Dec (Sooner j k)
sooner_dec j k = earlier_dec j.stamp k.stamp

pub sooner_upto : (j k : Point) → Sooner j k → Upto j k
sooner_upto j k h g = asym j.stamp k.stamp h g

pub upto_self : (k : Point) → Upto k k
upto_self k h = asym k.stamp k.stamp h h

pub same_self : (k : Point) → Same k k
same_self k = (upto_self k, upto_self k)

pub upto_trans : (i j k : Point) → Upto i j → Upto j k → Upto i k
upto_trans i j k h g = not_earlier_trans i.stamp j.stamp k.stamp i.proper j.proper k.proper h g

pub sooner_trans : (i j k : Point) → Sooner i j → Sooner j k → Sooner i k
sooner_trans i j k h g = earlier_trans i.stamp j.stamp k.stamp i.proper j.proper k.proper h g

pub upto_sooner : (i j k : Point) → Upto i j → Sooner j k → Sooner i k
upto_sooner i j k h g = go (sooner_dec i k)
  where
    go : Dec (Sooner i k) → Sooner i k
    go (yes x) = x
    go (no x) = absurd (upto_trans k i j x h g)

pub sooner_upto_trans : (i j k : Point) → Sooner i j → Upto j k → Sooner i k
sooner_upto_trans i j k h g = go (sooner_dec i k)
  where
    go : Dec (Sooner i k) → Sooner i k
    go (yes x) = x
    go (no x) = absurd (upto_trans j k i g x h)

pub same_sym : (j k : Point) → Same j k → Same k j
same_sym j k s = (s.1, s.0)

pub same_trans : (i j k : Point) → Same i j → Same j k → Same i k
same_trans i j k s r = (upto_trans i j k s.0 r.0, upto_trans k j i r.1 s.1)

-- not after is sooner or the same
pub upto_out : (j k : Point) → Upto j k → (Sooner j k) ⊎ (Same j k)
upto_out j k h = go (sooner_dec j k)
  where
    go : Dec (Sooner j k) → (Sooner j k) ⊎ (Same j k)
    go (yes x) = inl x
    go (no x) = inr (h, x)

-- the two sides of a time stand next to each other
pub on_past : (t : Fraction) (p q : Proper t) → Sooner (on t p) (past t q)
on_past t p q = inr (refl, omega arith)

pub upto_on : (m : Point) (t : Fraction) (p : Proper t) → Sooner m (past t p) → Upto m (on t p)
upto_on m t p (inl x) (inl y) = omega arith
upto_on m t p (inl x) (inr y) = omega (arith, y.0)
upto_on m t p (inr x) (inl y) = omega (arith, x.0)
upto_on m t p (inr x) (inr y) = omega (arith, x.1, y.1)

-- points at one moment
pub same_at : (j k : Point) → j.stamp ≡ k.stamp → Same j k
same_at j k e = ((λ h. upto_self k (subst (λ (m : Stamp). Earlier k.stamp m) e h)), (λ h. upto_self k (subst (λ (m : Stamp). Earlier m k.stamp) e h)))

-- the same moment has the same side, and times that are the same
pub at_once_time : (j k : Stamp) → AtOnce j k → SameTime j.time k.time × (j.after ≡ k.after)
at_once_time j k s = moment.at_once_time j k s.0 s.1

pub time_at_once : (j k : Stamp) → SameTime j.time k.time → j.after ≡ k.after → AtOnce j k
time_at_once j k e f = (not_before k j (sym e) (sym f), not_before j k e f)
  where
    not_before : (m k : Stamp) → SameTime m.time k.time → m.after ≡ k.after → ¬ (Earlier m k)
    not_before m k e f (inl x) = omega (arith, e)
    not_before m k e f (inr x) = omega (arith, x.1, ap side f)

pub same_time : (j k : Point) → Same j k → SameTime j.stamp.time k.stamp.time × (j.stamp.after ≡ k.stamp.after)
same_time j k s = at_once_time j.stamp k.stamp s
