-- The hall's own tables as functions.
use Rattle.std.specs.Prelude.{ℕ, ◌≤◌, Bool, false, List, None, Option, slice_index}
use Rattle.rules.specs.Basics.{put}
use Rattle.model.specs.Halls.{Craft}

pub record Table : Type 0 where
  pub craft : ℕ → Option Craft
  pub bit : ℕ → Bool
  pub number : ℕ → ℕ
  pub last : ℕ

abbrev pub empty : Table
empty = record { craft = λ _. None; bit = λ _. false; number = λ _. 0; last = 0 }

abbrev pub put_craft : ℕ → Option Craft → Table → Table
put_craft c o t = record { craft = put t.craft c o; bit = t.bit; number = t.number; last = t.last }

abbrev pub put_bit : ℕ → Bool → Table → Table
put_bit s b t = record { craft = t.craft; bit = put t.bit s b; number = t.number; last = t.last }

-- a slot's number, and the last number granted
abbrev pub put_number : (slot number last : ℕ) → Table → Table
put_number s n l t = record { craft = t.craft; bit = t.bit; number = put t.number s n; last = l }

-- no slot has a number that was not granted
abbrev pub Granted : List ℕ → ℕ → Type 0
Granted xs last = (k : ℕ) → slice_index xs k ≤ last
