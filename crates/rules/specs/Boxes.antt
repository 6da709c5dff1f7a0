-- Boxes, their ends, overlap at a moment, the first wrong moment of a bit, touching, meeting and parting.
use Rattle.std.specs.Prelude.{◌≡◌, ℕ, Bool, true, false, cond, not, ◌&&◌, ◌||◌, List, [], ◌∷◌, ◌++◌, ℤ, pos, ◌+ℤ◌, ◌-ℤ◌, ◌*ℤ◌, ◌≤ℤ◌, Some, None, Option, int_le, int_lt, nat_le, unsigned_abs}
use Rattle.rules.specs.Basics.{those}
use Rattle.rules.specs.Fractions.{Fraction, Proper, Before, NotAfter, Throughout, tick, least, no_time}
use Rattle.rules.specs.Stamps.{Stamp, at, just_after, is_earlier, earliest}
use Rattle.rules.specs.Paths.{Axis, Line, Path, leg, value, on_every_axis}

-- how far a box reaches from its craft's position on each axis: half its size, down and up alike
pub record Box : Type 0 where
  pub half : Axis → ℕ

-- the reach below the position, and above it
abbrev pub down_reach : Box → Axis → ℕ
down_reach b a = b.half a

abbrev pub up_reach : Box → Axis → ℕ
up_reach b a = b.half a

-- whether every half size is from 1 to 1,000
abbrev pub box_right : Box → Bool
box_right b = on_every_axis (λ a. nat_le 1 (b.half a) && nat_le (b.half a) 1000)

-- the lower end and the upper end of a box on one axis, as lines
pub record Ends : Type 0 where
  pub low : Line
  pub high : Line

abbrev pub ends : Box → Axis → Line → Ends
ends b a l = record {
  low = record { base = l.base -ℤ pos (down_reach b a); slope = l.slope };
  high = record { base = l.base +ℤ pos (up_reach b a); slope = l.slope };
}

-- the greater value is behind; just after, of equal values the greater slope
abbrev pub behind : Line → Line → Stamp → Bool
behind u v m = int_lt (value v m.time) (value u m.time)
    || (m.after && not (int_lt (value u m.time) (value v m.time)) && int_lt v.slope u.slope)

-- neither lower end is behind the other's upper end
abbrev pub overlap : Ends → Ends → Stamp → Bool
overlap p q m = not (behind p.low q.high m) && not (behind q.low p.high m)

-- n / s, where that is a time
abbrev pub quotient : ℤ → ℤ → Option Fraction
quotient n s = cond (int_le (pos 0) (n *ℤ s) && not (no_time (unsigned_abs n) (unsigned_abs s))) (Some (least (unsigned_abs n) (unsigned_abs s))) None

-- the moments at which two ends that differ in slope have one value
abbrev pub both_sides : Option Fraction → List Stamp
both_sides None = []
both_sides (Some t) = at t ∷ just_after t ∷ []

abbrev pub crossing : Line → Line → List Stamp
crossing u v = both_sides (quotient (v.base -ℤ u.base) (u.slope -ℤ v.slope))

-- the bit tells otherwise than what is so
abbrev pub wrong : Bool → Bool → Bool
wrong true so = not so
wrong false so = so

-- The first moment, not before m, at which the bit is wrong, or never.
-- A bit that is right at m turns wrong only where a lower and an upper end have one value.
abbrev pub fails : Bool → Ends → Ends → Stamp → Option Stamp
fails bit p q m = earliest (those (λ k. not (is_earlier k m) && wrong bit (overlap p q k)) (m ∷ crossing p.low q.high ++ crossing q.low p.high))

-- What that comes to, over all fractions: k is the first moment up to 50,000 and not before m at which the bit is wrong.
pub record FirstWrong (bit : Bool) (p q : Ends) (m k : Stamp) : Type 0 where
  pub proper : Proper k.time
  pub inside : NotAfter k.time (tick 50000)
  pub since : is_earlier k m ≡ false
  pub wrong_then : wrong bit (overlap p q k) ≡ true
  pub right_before : (j : Stamp) → Proper j.time → is_earlier j m ≡ false → is_earlier j k ≡ true → wrong bit (overlap p q j) ≡ false

abbrev pub NeverWrong : Bool → Ends → Ends → Stamp → Type 0
NeverWrong bit p q m = (j : Stamp) → Proper j.time → NotAfter j.time (tick 50000) → is_earlier j m ≡ false → wrong bit (overlap p q j) ≡ false

abbrev pub Fails : Bool → Ends → Ends → Stamp → Option Stamp → Type 0
Fails bit p q m None = NeverWrong bit p q m
Fails bit p q m (Some k) = FirstWrong bit p q m k

-- Two boxes touch: on every axis neither lower end is above the other's upper end. Values are taken on the paths.
abbrev pub Under : Path → Box → Path → Box → Fraction → Axis → Type 0
Under p b q d t a = value (ends b a (leg p t a)).low t ≤ℤ value (ends d a (leg q t a)).high t

abbrev pub Touch : Path → Box → Path → Box → Fraction → Type 0
Touch p b q d t = (a : Axis) → Under p b q d t a × Under q d p b t a

-- it holds at t, and on some stretch just before it did not
abbrev pub Meets : (Fraction → Type 0) → Fraction → Type 0
Meets P t = P t × ((s : Fraction) × Proper s × Before s t × Throughout (λ r. ¬ P r) s t)

-- it holds at t, and on some stretch just after it does not
abbrev pub Parts : (Fraction → Type 0) → Fraction → Type 0
Parts P t = P t × ((s : Fraction) × Proper s × Before t s × Throughout (λ r. ¬ P r) t s)
