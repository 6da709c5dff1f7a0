-- The records of the followers, saved while they are out.
use Rattle.std.specs.Prelude.{◌≡◌, ℕ, ◌<◌, Bool, cond, List, length, is_some, None, Option, slice_index_or}
use Rattle.rules.specs.Basics.{the}
use Rattle.rules.specs.Books.{follows}
use Rattle.rules.specs.Boxes.{Box}
use Rattle.model.specs.Halls.{Craft, Hall}
use Rattle.model.specs.Moves.{nobody}
use Rattle.tables.specs.declared.craft.CraftRecord.{CraftRecord}
use Rattle.tables.specs.Crafts.{record_in}

-- the craft record of d, where d is entered and follows c
abbrev pub follower_of : ℕ → Hall → ℕ → Option Craft
follower_of c m d = cond (follows m.book c d) (m.craft d) None

-- below n the list has the followers of c
pub record Saved (c : ℕ) (m : Hall) (n : ℕ) (xs : List (Option CraftRecord)) : Type 0 where
  pub long : length xs ≡ 64
  pub each : (d : ℕ) → d < n → record_in (slice_index_or xs d None) ≡ follower_of c m d

abbrev pub is_saved : List (Option CraftRecord) → ℕ → Bool
is_saved xs d = is_some (slice_index_or xs d None)

-- the box of a record that is saved; of any other it does not matter
abbrev pub box_in : Option CraftRecord → Box
box_in o = (the nobody (record_in o)).box

abbrev pub saved_box : List (Option CraftRecord) → ℕ → Box
saved_box xs d = box_in (slice_index_or xs d None)
