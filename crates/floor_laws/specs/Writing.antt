-- Moves of the hall that write their lines into a slip from a place on.
use Rattle.std.specs.Prelude.{◌≡◌, ℕ, ◌+◌, ◌≤◌, Bool, true, false, not, ◌&&◌, List, ◌++◌, length, take, drop, ◌==◌}
use Rattle.rules.specs.Stamps.{Stamp}
use Rattle.rules.specs.Paths.{Axis}
use Rattle.rules.specs.Slots.{slot}
use Rattle.model.specs.Halls.{Hall, in_hall}
use Rattle.model.specs.Moves.{Out, then, silent, withdrawn, take_away, grant_bit}

-- what changes the hall and writes lines
abbrev pub Move : Type 0
Move = Hall → Out

-- s with ls in the place of what stood there from n on
abbrev pub written : ℕ → List ℕ → List ℕ → List ℕ
written n ls s = take n s ++ (ls ++ drop (n + length ls) s)

-- The move f, with its lines written from n on, led from the hall m and the slip s to m' and s', and r is where the lines end.
pub record Wrote (f : Move) (n : ℕ) (m m' : Hall) (s s' : List ℕ) (r : ℕ) : Type 0 where
  pub hall : m' ≡ (f m).hall
  pub slip : s' ≡ written n (f m).lines s
  pub count : r ≡ n + length (f m).lines

-- from n on the slip has room for the lines of f, and there are numbers enough
pub record Fits (f : Move) (n : ℕ) (m : Hall) (s : List ℕ) : Type 0 where
  pub room : n + length (f m).lines ≤ length s
  pub numbers : (f m).hall.last ≤ 20000000

-- numbers never fall
abbrev pub Grows : Move → Type 0
Grows f = (m : Hall) → m.last ≤ (f m).hall.last

-- craft and book stay
abbrev pub Leaves : Move → Type 0
Leaves f = (m : Hall) → ((f m).hall.craft ≡ m.craft) × ((f m).hall.book ≡ m.book)

-- d is entered and is not c
abbrev pub other : ℕ → Hall → ℕ → Bool
other c m d = in_hall m d && not (d == c)

-- a move that is made where the test holds
abbrev pub where_so : Bool → Move → Move
where_so true f m = f m
where_so false f m = silent m

-- the move of d, where d is entered and is not c
abbrev pub if_other : ℕ → (ℕ → Move) → ℕ → Move
if_other c f d m = where_so (other c m d) (f d) m

-- the certificate of a craft's bit with another is withdrawn; and granted at k
abbrev pub withdraw : Axis → ℕ → ℕ → Move
withdraw a c d = take_away withdrawn (slot a c d)

abbrev pub regrant : Axis → ℕ → Stamp → ℕ → Move
regrant a c k d = grant_bit a c d k

abbrev pub MovesCompose : Type 0
MovesCompose = (f g : Move) (n : ℕ) (m m₁ m₂ : Hall) (s s₁ s₂ : List ℕ) (r₁ r₂ : ℕ) →
    n + length (f m).lines ≤ length s → Wrote f n m m₁ s s₁ r₁ → Wrote g r₁ m₁ m₂ s₁ s₂ r₂ → Wrote (then f g) n m m₂ s s₂ r₂
