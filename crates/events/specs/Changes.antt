-- Who flies changes at a quiet clock: what stays, and what is set anew.
use Rattle.std.specs.Prelude.{◌≡◌, ℕ, true, ◌⊎◌, None}
use Rattle.rules.specs.Fractions.{Fraction, Proper}
use Rattle.rules.specs.Stamps.{at}
use Rattle.rules.specs.Paths.{Axis}
use Rattle.rules.specs.Boxes.{overlap}
use Rattle.events.specs.Machine.{Sky, flies, Pair, In, Core, ends_in, Certified, Reads, Rested}

-- the craft d flew before, with the same box and path, and its leg and leg certificate stay
pub record Stays (y y' : Sky) (s s' : Core) (d : ℕ) : Type 0 where
  pub box : y'.box d ≡ y.box d
  pub path : y'.path d ≡ y.path d
  pub leg : (a : Axis) → s'.leg d a ≡ s.leg d a
  pub turn : s'.turn d ≡ s.turn d

-- both craft stay, and the pair's bit and certificate on the axis
pub record Remains (y y' : Sky) (s s' : Core) (i : Pair) (a : Axis) : Type 0 where
  pub first : Stays y y' s s' i.lower
  pub second : Stays y y' s s' i.higher
  pub bit : s'.bit i a ≡ s.bit i a
  pub fails : s'.fails i a ≡ s.fails i a

-- its bit is set as it is at t, and its certificate is granted there
pub record Anew (y : Sky) (t : Fraction) (s : Core) (i : Pair) (a : Axis) : Type 0 where
  pub right : s.bit i a ≡ overlap (ends_in y s a i.lower) (ends_in y s a i.higher) (at t)
  pub granted : Certified y s (at t) i a

-- Entries, leavings, and filings between a leaving and an entry: every craft that flies now stays or is read anew at t, and so for every pair.
pub record Changed (y y' : Sky) (t : Fraction) (s s' : Core) : Type 0 where
  pub craft : (d : ℕ) → flies y' d ≡ true → (Stays y y' s s' d) ⊎ (Reads (y'.path d) t (s'.leg d) (s'.turn d))
  pub pairs : (i : Pair) → In y' i → (a : Axis) → (Remains y y' s s' i a) ⊎ (Anew y' t s' i a)

abbrev pub ChangesRest : Type 0
ChangesRest = (y y' : Sky) (t : Fraction) → Proper t → (s s' : Core) → Rested y t s → Changed y y' t s s' → Rested y' t s'

-- With no craft in the air it stands at any time.
abbrev pub EmptyRests : Type 0
EmptyRests = (y : Sky) → ((c : ℕ) → y.box c ≡ None) → (t : Fraction) (s : Core) → Rested y t s
