-- The first wrong moment of a bit with a single quotient: by which of two boxes gains on the other.
use Rattle.std.specs.Prelude.{◌≡◌, Bool, true, false, cond, ◌-ℤ◌, ◌<ℤ◌, Some, None, Option, int_lt}
use Rattle.rules.specs.Fractions.{Fraction, Usual}
use Rattle.rules.specs.Stamps.{Stamp}
use Rattle.rules.specs.Paths.{Line}
use Rattle.rules.specs.Boxes.{Ends, behind, overlap, quotient, wrong, fails}

-- a time at the side told
abbrev pub sided : Bool → Option Fraction → Option Stamp
sided s None = None
sided s (Some t) = Some (record { time = t; after = s })

-- when two ends have one value, at the side told
abbrev pub met : Line → Line → Bool → Option Stamp
met u v s = sided s (quotient (v.base -ℤ u.base) (u.slope -ℤ v.slope))

-- of a right bit, where p moves up against q: its lower end leaves q's upper end behind, or its upper end comes to q's lower end
abbrev pub gaining : Bool → Ends → Ends → Stamp → Option Stamp
gaining true p q m = met p.low q.high true
gaining false p q m = cond (behind q.low p.high m) (met q.low p.high false) None

abbrev pub moving : Bool → Ends → Ends → Stamp → Option Stamp
moving bit p q m = cond (int_lt q.low.slope p.low.slope) (gaining bit p q m) (cond (int_lt p.low.slope q.low.slope) (gaining bit q p m) None)

abbrev pub quick : Bool → Ends → Ends → Stamp → Option Stamp
quick bit p q m = cond (wrong bit (overlap p q m)) (Some m) (moving bit p q m)

-- ends of a box that has some size, on one line
pub record Solid (e : Ends) : Type 0 where
  pub level : e.low.slope ≡ e.high.slope
  pub tall : e.low.base <ℤ e.high.base

-- it is the first wrong moment, of any lines
abbrev pub QuickRight : Type 0
QuickRight = (bit : Bool) (p q : Ends) (m : Stamp) → Usual m.time → Solid p → Solid q → quick bit p q m ≡ fails bit p q m
