-- The hall's state as values.
use Rattle.std.specs.Prelude.{ℕ, ◌-◌, Bool, false, cond, not, ◌&&◌, List, is_some, Some, None, Option, ◌==◌}
use Rattle.rules.specs.Basics.{those, below, put}
use Rattle.rules.specs.Fractions.{Fraction, tick}
use Rattle.rules.specs.Stamps.{Stamp, at, is_earlier}
use Rattle.rules.specs.Paths.{Axis, X, Y, Z, Line}
use Rattle.rules.specs.Books.{Book}
use Rattle.rules.specs.Boxes.{Box}
use Rattle.rules.specs.Slots.{slot, Queue, first}

-- an entered craft: its box and its present leg
pub record Craft : Type 0 where
  pub box : Box
  pub leg : Axis → Line

-- What a firing reads and changes. Bits, numbers and the queue's moments go by slot.
pub record Hall : Type 0 where
  pub book : Book
  -- the entered craft
  pub craft : ℕ → Option Craft
  -- whether two craft overlap on an axis; false where there is no such pair
  pub bit : ℕ → Bool
  -- the number of the certificate that stands in a slot; 0 where none stands
  pub number : ℕ → ℕ
  -- the moment at which the certificate of a slot fails, or nothing
  pub queue : Queue
  -- the last number granted
  pub last : ℕ

-- a quiet clock at a time, or a due one from a time to a goal
pub data Clock : Type 0 where
  quiet : Fraction → Clock
  due : Fraction → Fraction → Clock

-- The hall with its clock. At a quiet clock side 0 of its time is present, and a firing makes its own moment present;
-- nothing else reads the present moment, so that what moves certificates has it as an argument.
pub record State : Type 0 where
  pub hall : Hall
  pub clock : Clock

-- as it opens over a book and an empty queue
abbrev pub empty_hall : Book → Hall
empty_hall b = record { book = b; craft = λ _. None; bit = λ _. false; number = λ _. 0; queue = λ _. None; last = 0 }

abbrev pub opened : Book → State
opened b = record { hall = empty_hall b; clock = quiet (tick 0) }

-- one part changed, the rest as it was
abbrev pub with_book : Book → Hall → Hall
with_book b m = record { book = b; craft = m.craft; bit = m.bit; number = m.number; queue = m.queue; last = m.last }

abbrev pub with_craft : ℕ → Option Craft → Hall → Hall
with_craft c o m = record { book = m.book; craft = put m.craft c o; bit = m.bit; number = m.number; queue = m.queue; last = m.last }

abbrev pub with_bit : ℕ → Bool → Hall → Hall
with_bit s b m = record { book = m.book; craft = m.craft; bit = put m.bit s b; number = m.number; queue = m.queue; last = m.last }

-- a slot's number and moment, and the last number granted
abbrev pub with_slot : (slot number : ℕ) → Option Stamp → (last : ℕ) → Hall → Hall
with_slot s n f l m = record { book = m.book; craft = m.craft; bit = m.bit; number = put m.number s n; queue = put m.queue s f; last = l }

-- a certificate: its number, and the moment at which it fails, or never
pub record Certificate : Type 0 where
  pub number : ℕ
  pub fails : Option Stamp

-- the certificate that stands in a slot, or none
abbrev pub certificate_in : ℕ → Hall → Option Certificate
certificate_in s m = cond (m.number s == 0) None (Some (record { number = m.number s; fails = m.queue s }))

-- whether a craft is entered
abbrev pub in_hall : Hall → ℕ → Bool
in_hall m c = is_some (m.craft c)

-- all craft, ascending (shut, so that no goal spells out the 64)
unfoldable pub all_craft : List ℕ
all_craft = below 64

-- the entered craft, ascending; and those of them that are not c
abbrev pub entered : Hall → List ℕ
entered m = those (in_hall m) all_craft

abbrev pub others : ℕ → Hall → List ℕ
others c m = those (λ d. in_hall m d && not (d == c)) all_craft

-- by the bits two craft overlap when all three of theirs are set
abbrev pub together : ℕ → ℕ → Hall → Bool
together c d m = m.bit (slot X c d) && m.bit (slot Y c d) && m.bit (slot Z c d)

-- the numbers left
abbrev pub left : Hall → ℕ
left m = 20000000 - m.last

-- what is due: the queue's first, where its moment is not after the goal itself
abbrev pub due_by : Fraction → Option (ℕ × Stamp) → Option (ℕ × Stamp)
due_by goal None = None
due_by goal (Some f) = cond (is_earlier (at goal) f.1) None (Some f)

abbrev pub next_due : Fraction → Hall → Option (ℕ × Stamp)
next_due goal m = due_by goal (first m.queue)
