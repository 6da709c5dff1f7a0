-- What holds of every flight book.
use Rattle.std.specs.Prelude.{◌≡◌, ℕ, false}
use Rattle.rules.specs.Fractions.{Fraction, Proper, NotAfter}
use Rattle.rules.specs.Paths.{Axis, leg, value, position}
use Rattle.rules.specs.Books.{Book, BookChange, file, ride, Lawful, changed, path, break_after, follows}
use Rattle.plans.specs.Laws.{NotPast}
use Rattle.books.specs.Right.{OwnRight}

-- own paths within the scale over 2 to the power of the levels make a book lawful, also after any changes
abbrev pub OwnLawful : Type 0
OwnLawful = (b : Book) → OwnRight b → Lawful b

-- The line read at s gives the craft's position at every fraction from s until the first break after s, both included.
abbrev pub LinesHold : Type 0
LinesHold = (b : Book) → Lawful b → (c : ℕ) (s t : Fraction) → Proper s → Proper t → NotAfter s t → NotPast t (break_after b c s) → (a : Axis) → value (leg (path b c) s a) t ≡ position (path b c) a t

-- the craft whose plan or seat a change sets
abbrev pub craft_of : BookChange → ℕ
craft_of (file c p) = c
craft_of (ride c j k) = c

-- a change moves the path of no craft that does not follow the one changed
abbrev pub OthersStay : Type 0
OthersStay = (x : BookChange) (b : Book) (d : ℕ) → follows b (craft_of x) d ≡ false → path (changed x b) d ≡ path b d

-- who follows a craft is the same after its plan or seat is set
abbrev pub FollowersStay : Type 0
FollowersStay = (x : BookChange) (b : Book) (d : ℕ) → follows (changed x b) (craft_of x) d ≡ follows b (craft_of x) d

-- a change leaves levels, leg limit and scale
pub record Frame (x : BookChange) (b : Book) : Type 0 where
  pub levels : (changed x b).levels ≡ b.levels
  pub limit : (changed x b).limit ≡ b.limit
  pub scale : (changed x b).scale ≡ b.scale

abbrev pub FramesStay : Type 0
FramesStay = (x : BookChange) (b : Book) → Frame x b
