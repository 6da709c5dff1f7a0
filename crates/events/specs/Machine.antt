-- A machine that fires certificates: present legs, bits, and the moments at which they fail.
use Rattle.std.specs.Prelude.{◌≡◌, ℕ, ◌<◌, Bool, true, false, not, ◌⊎◌, List, [], ◌++◌, is_some, Some, Option, ◌≢◌}
use Rattle.rules.specs.Basics.{the}
use Rattle.rules.specs.Fractions.{Fraction, Proper, NotAfter}
use Rattle.rules.specs.Stamps.{Stamp, at, is_earlier}
use Rattle.rules.specs.Paths.{Axis, Line, Path, leg, first_after, on_every_axis}
use Rattle.rules.specs.Boxes.{Box, Ends, ends, Fails}
use Rattle.rules.specs.Pages.{Report}
use Rattle.model.specs.Moves.{at_break}
use Rattle.model.specs.Runs.{news}
use Rattle.model.specs.Histories.{stepped_with}

-- what is in the air: the craft that fly, with their boxes, and every craft's path
pub record Sky : Type 0 where
  pub box : ℕ → Option Box
  pub path : ℕ → Path

abbrev pub flies : Sky → ℕ → Bool
flies y c = is_some (y.box c)

-- the box of a craft that flies; of any other it does not matter
abbrev pub box_of : Sky → ℕ → Box
box_of y c = the (record { half = λ _. 0 }) (y.box c)

-- two craft, the lower number first
pub record Pair : Type 0 where
  pub lower : ℕ
  pub higher : ℕ

-- both fly
pub record In (y : Sky) (i : Pair) : Type 0 where
  pub first : flies y i.lower ≡ true
  pub second : flies y i.higher ≡ true
  pub order : i.lower < i.higher

-- What the machine holds: of each craft its present leg and the moment at which that ends;
-- of each pair and axis a bit, and the moment at which that is first wrong.
pub record Core : Type 0 where
  pub leg : ℕ → Axis → Line
  pub turn : ℕ → Option Stamp
  pub bit : Pair → Axis → Bool
  pub fails : Pair → Axis → Option Stamp

-- whether two craft overlap by their bits
abbrev pub together : Core → Pair → Bool
together s i = on_every_axis (s.bit i)

-- the ends of a craft's box on its present leg
abbrev pub ends_in : Sky → Core → Axis → ℕ → Ends
ends_in y s a c = ends (box_of y c) a (s.leg c a)

-- the certificate of a bit is right from m on
abbrev pub Certified : Sky → Core → Stamp → Pair → Axis → Type 0
Certified y s m i a = Fails (s.bit i a) (ends_in y s a i.lower) (ends_in y s a i.higher) m (s.fails i a)

-- three lines and an end are read off a path at a time: the leg that it then runs on or begins, and its next break
pub record Reads (p : Path) (t : Fraction) (l : Axis → Line) (e : Option Stamp) : Type 0 where
  pub lines : (a : Axis) → l a ≡ leg p t a
  pub end : e ≡ at_break (first_after t p.breaks)

-- a craft on its present leg at m, which was read before m or then, and has not ended before m
pub record Flying (p : Path) (l : Axis → Line) (m : Stamp) (e : Option Stamp) : Type 0 where
  pub read : Fraction
  pub proper : Proper read
  pub since : NotAfter read m.time
  pub reads : Reads p read l e
  pub ahead : (k : Stamp) → e ≡ Some k → is_earlier k m ≡ false

-- THE INVARIANT at the present moment m
pub record Sound (y : Sky) (m : Stamp) (s : Core) : Type 0 where
  pub legs : (c : ℕ) → flies y c ≡ true → Flying (y.path c) (s.leg c) m (s.turn c)
  pub bits : (i : Pair) → In y i → (a : Axis) → Certified y s m i a

-- no certificate fails before n
pub record NoneBefore (y : Sky) (s : Core) (n : Stamp) : Type 0 where
  pub bits : (i : Pair) → In y i → (a : Axis) (k : Stamp) → s.fails i a ≡ Some k → is_earlier k n ≡ false
  pub legs : (c : ℕ) → flies y c ≡ true → (k : Stamp) → s.turn c ≡ Some k → is_earlier k n ≡ false

-- nothing is due at t: every certificate fails after it, or never
pub record Quiet (y : Sky) (s : Core) (t : Fraction) : Type 0 where
  pub bits : (i : Pair) → In y i → (a : Axis) (k : Stamp) → s.fails i a ≡ Some k → is_earlier (at t) k ≡ true
  pub legs : (c : ℕ) → flies y c ≡ true → (k : Stamp) → s.turn c ≡ Some k → is_earlier (at t) k ≡ true

-- the certificate of a bit fires at n: the bit changes, and its next certificate is granted
pub record Flips (y : Sky) (i : Pair) (a : Axis) (n : Stamp) (s s' : Core) : Type 0 where
  pub inside : In y i
  pub due : s.fails i a ≡ Some n
  pub turned : s'.bit i a ≡ not (s.bit i a)
  pub next : Certified y s' n i a
  pub bits : (j : Pair) → In y j → (b : Axis) → (j ≡ i → b ≢ a) → s'.bit j b ≡ s.bit j b
  pub fails : (j : Pair) → In y j → (b : Axis) → (j ≡ i → b ≢ a) → s'.fails j b ≡ s.fails j b
  pub legs : (c : ℕ) → flies y c ≡ true → (b : Axis) → s'.leg c b ≡ s.leg c b
  pub turns : (c : ℕ) → flies y c ≡ true → s'.turn c ≡ s.turn c

-- the leg certificate of c fires at n: its leg is read anew, and the certificates of its pairs are granted anew
pub record Rereads (y : Sky) (c : ℕ) (n : Stamp) (s s' : Core) : Type 0 where
  pub inside : flies y c ≡ true
  pub due : s.turn c ≡ Some n
  pub read : Reads (y.path c) n.time (s'.leg c) (s'.turn c)
  pub next : (i : Pair) → In y i → (i.lower ≡ c) ⊎ (i.higher ≡ c) → (a : Axis) → Certified y s' n i a
  pub bits : (i : Pair) → In y i → (a : Axis) → s'.bit i a ≡ s.bit i a
  pub fails : (i : Pair) → In y i → (i.lower ≢ c) → (i.higher ≢ c) → (a : Axis) → s'.fails i a ≡ s.fails i a
  pub legs : (d : ℕ) → flies y d ≡ true → (d ≢ c) → (b : Axis) → s'.leg d b ≡ s.leg d b
  pub turns : (d : ℕ) → flies y d ≡ true → (d ≢ c) → s'.turn d ≡ s.turn d

-- what a firing at n tells of a pair, by whether its three bits were all set and are all set
abbrev pub telling : Core → Core → Pair → Stamp → List Report
telling s s' i n = stepped_with n.time (news (together s i) (together s' i) i.lower i.higher)

-- one firing at n, and what it tells
pub data Fires (y : Sky) (n : Stamp) (s s' : Core) : List Report → Type 0 where
  bit_fires : (i : Pair) (a : Axis) → Flips y i a n s s' → Fires y n s s' (telling s s' i n)
  leg_fires : (c : ℕ) → Rereads y c n s s' → Fires y n s s' []

-- firings from a core to the core e, each of a certificate that fails first, and not after t
pub data Runs (y : Sky) (t : Fraction) (e : Core) : Core → List Report → Type 0 where
  stop : Runs y t e e []
  step : {s : Core} {rs qs : List Report} (n : Stamp) (r : Core) → NoneBefore y s n → is_earlier (at t) n ≡ false → Fires y n s r rs → Runs y t e r qs → Runs y t e s (rs ++ qs)

-- a quiet clock at t: the invariant stands at t, and nothing is due there
pub record Rested (y : Sky) (t : Fraction) (s : Core) : Type 0 where
  pub sound : Sound y (at t) s
  pub quiet : Quiet y s t
