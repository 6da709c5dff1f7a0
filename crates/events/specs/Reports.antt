-- What is to be told: the meetings and partings of the pairs in the air, between two quiet clocks.
use Rattle.std.specs.Prelude.{◌≡◌, ℕ, ◌<◌, List, Some, Decides}
use Rattle.rules.specs.Basics.{◌∈◌, InTurn}
use Rattle.rules.specs.Fractions.{Fraction, Proper, Before, NotAfter, SameTime, tick}
use Rattle.rules.specs.Paths.{Kept}
use Rattle.rules.specs.Boxes.{Box, Touch, Meets, Parts}
use Rattle.rules.specs.Pages.{News, met, parted, Report}
use Rattle.model.specs.Statement.{InOrder}
use Rattle.events.specs.Machine.{Sky, Core, together, Quiet, Runs, Rested}

-- every path keeps the rules at the scale w
abbrev pub Lawful : ℕ → Sky → Type 0
Lawful w y = (c : ℕ) → Kept w (y.path c)

-- P is so of the boxes of c and d, which fly
abbrev pub OfPair : Sky → ℕ → ℕ → ((Fraction → Type 0) → Type 0) → Type 0
OfPair y c d P = (k : Box) × (l : Box) × (y.box c ≡ Some k) × (y.box d ≡ Some l) × P (Touch (y.path c) k (y.path d) l)

-- what there is to report from a quiet clock at s to one at t: meetings in (s, t] and partings in [s, t)
abbrev pub Happens : Sky → Fraction → Fraction → News → Fraction → Type 0
Happens y s t (met c d) u = Before s u × NotAfter u t × (c < d) × OfPair y c d (λ touch. Meets touch u)
Happens y s t (parted c d) u = NotAfter s u × Before u t × (c < d) × OfPair y c d (λ touch. Parts touch u)

-- THE REPORTS from a quiet clock at s to one at t: what is told happens, what happens is told, once and in order
pub record Reported (y : Sky) (s t : Fraction) (rs : List Report) : Type 0 where
  pub true_told : (r : Report) → r ∈ rs → Happens y s t r.news r.time
  pub all_told : (w : News) (u : Fraction) → Proper u → Happens y s t w u → (r : Report) × (r ∈ rs) × (r.news ≡ w) × SameTime r.time u
  pub ordered : InTurn InOrder rs

abbrev pub ReportsHold : Type 0
ReportsHold =
    (w : ℕ) (y : Sky) → Lawful w y → (s t : Fraction) → Proper s → Proper t → NotAfter s t → NotAfter t (tick 50000) →
    (c d : Core) (rs : List Report) → Rested y s c → Runs y t d c rs → Quiet y d t → Reported y s t rs × Rested y t d

-- At a quiet clock the three bits of a pair tell whether its boxes touch.
abbrev pub BitsTell : Type 0
BitsTell =
    (w : ℕ) (y : Sky) → Lawful w y → (t : Fraction) → Proper t → NotAfter t (tick 50000) → (s : Core) → Rested y t s →
    (c d : ℕ) (k l : Box) → c < d → y.box c ≡ Some k → y.box d ≡ Some l →
    Decides (together s (record { lower = c; higher = d })) (Touch (y.path c) k (y.path d) l t)
