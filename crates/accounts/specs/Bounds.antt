-- How many lines each move writes and how many numbers it grants, at most.
use Rattle.std.specs.Prelude.{ℕ, ◌+◌, ◌<◌, ◌≤◌, length}
use Rattle.rules.specs.Stamps.{Stamp}
use Rattle.rules.specs.Books.{BookChange}
use Rattle.rules.specs.Boxes.{Box}
use Rattle.model.specs.Halls.{Hall}
use Rattle.model.specs.Moves.{Out, enter, leave, change, fire}

-- from m, at most so many lines, and at most so many numbers more
pub record Within (l n : ℕ) (m : Hall) (o : Out) : Type 0 where
  pub lines : length o.lines ≤ l
  pub most : o.hall.last ≤ m.last + n
  pub fewest : m.last ≤ o.hall.last

abbrev pub EnterWithin : Type 0
EnterWithin = (c : ℕ) (b : Box) (k : Stamp) (m : Hall) → c < 64 → Within 190 190 m (enter c b k m)

abbrev pub LeaveWithin : Type 0
LeaveWithin = (c : ℕ) (m : Hall) → c < 64 → Within 190 0 m (leave c m)

abbrev pub ChangeWithin : Type 0
ChangeWithin = (x : BookChange) (k : Stamp) (m : Hall) → Within 12224 6112 m (change x k m)

-- a firing grants a number at least
abbrev pub FireWithin : Type 0
FireWithin = (s : ℕ) (k : Stamp) (m : Hall) → s < 12352 → Within 380 190 m (fire s k m) × (m.last < (fire s k m).hall.last)
