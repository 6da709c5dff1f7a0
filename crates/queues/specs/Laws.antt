-- What a queue's first answer comes to.
use Rattle.std.specs.Prelude.{◌≡◌, ℕ, ◌≤◌, Some, None, Decides, Option}
use Rattle.rules.specs.Fractions.{Proper}
use Rattle.rules.specs.Stamps.{Stamp}
use Rattle.rules.specs.Slots.{Queue, first, First}
use Rattle.queues.specs.Meanings.{soonest, is_nothing}

-- what is held is held in the slots below 12,352, and at times that are numbers
pub record Held (q : Queue) : Type 0 where
  pub within : (k : ℕ) → 12352 ≤ k → q k ≡ None
  pub proper : (k : ℕ) (m : Stamp) → q k ≡ Some m → Proper m.time

-- the first answer is the one that the scan computes
abbrev pub SoonestFirst : Type 0
SoonestFirst = (q : Queue) → soonest q ≡ first q

-- the answer computed is the least moment's, and the only one that is
abbrev pub FirstsRight : Type 0
FirstsRight = (q : Queue) → Held q → First q (soonest q) × ((o : Option (ℕ × Stamp)) → First q o → o ≡ soonest q)

-- there is no first just where nothing is held
abbrev pub EmptyRight : Type 0
EmptyRight = (q : Queue) → Held q → Decides (is_nothing (soonest q)) ((k : ℕ) → q k ≡ None)
