-- Moments in order, and facts that hold from one moment until another.
use Rattle.std.specs.Prelude.{Bool, true, false}
use Rattle.rules.specs.Fractions.{Fraction, Proper}
use Rattle.rules.specs.Stamps.{Stamp, Earlier, at, just_after}
use Rattle.rules.specs.Boxes.{Meets, Parts}

-- a moment with a time that is one
pub record Point : Type 0 where
  pub stamp : Stamp
  pub proper : Proper stamp.time

abbrev pub Sooner : Point → Point → Type 0
Sooner j k = Earlier j.stamp k.stamp

-- j is not after k
abbrev pub Upto : Point → Point → Type 0
Upto j k = ¬ (Sooner k j)

abbrev pub AtOnce : Stamp → Stamp → Type 0
AtOnce j k = (¬ (Earlier k j)) × (¬ (Earlier j k))

abbrev pub Same : Point → Point → Type 0
Same j k = AtOnce j.stamp k.stamp

-- P holds from m until n, n left out
abbrev pub During : (Point → Type 0) → Point → Point → Type 0
During P m n = (k : Point) → Upto m k → Sooner k n → P k

-- the instant t itself, and just after it
abbrev pub on : (t : Fraction) → Proper t → Point
on t p = record { stamp = at t; proper = p }

abbrev pub past : (t : Fraction) → Proper t → Point
past t p = record { stamp = just_after t; proper = p }

-- the bit tells whether P holds, or tells otherwise
abbrev pub Tells : Bool → Type 0 → Type 0
Tells true P = P
Tells false P = ¬ P

abbrev pub Wrong : Bool → Type 0 → Type 0
Wrong true P = ¬ P
Wrong false P = P

-- the turns of what touches: a meeting at side 0 of a time, a parting at side 1
abbrev pub turning : Bool → (Fraction → Type 0) → Fraction → Type 0
turning false P t = Meets P t
turning true P t = Parts P t

abbrev pub Turning : (Fraction → Type 0) → Point → Type 0
Turning P k = turning k.stamp.after P k.stamp.time
