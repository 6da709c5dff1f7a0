-- Every call on a hall, and what it can be told.
use Rattle.std.specs.Prelude.{ℕ, Bool, List, [], Option}
use Rattle.rules.specs.Fractions.{Fraction}
use Rattle.rules.specs.Plans.{Plan}
use Rattle.rules.specs.Books.{BookChange, file, ride}
use Rattle.rules.specs.Boxes.{Box}
use Rattle.rules.specs.Pages.{News}
use Rattle.model.specs.Halls.{Certificate, Clock, State}

-- what may change with a quiet clock: who is entered, or the book by a filing or a ride
pub data Change : Type 0 where
  entering : (craft : ℕ) → Box → Change
  leaving : (craft : ℕ) → Change
  booking : BookChange → Change

abbrev pub filing : (craft : ℕ) → Plan → Change
filing c p = booking (file c p)

abbrev pub riding : (craft level : ℕ) → (carrier : Option ℕ) → Change
riding c j k = booking (ride c j k)

-- A call with its arguments: the numbers of the clock handed in (a due one has its goal too),
-- and the lengths of the slip, the list or the page that is lent.
pub data Call : Type 0 where
  changing : Fraction → Change → (slip : ℕ) → Call
  setting : Fraction → (n d : ℕ) → Call
  stepping : (time goal : Fraction) → (slip : ℕ) → Call
  running : (time goal : Fraction) → (slip page : ℕ) → Call
  resting : (time goal : Fraction) → Call
  touching : Fraction → (c d : ℕ) → Call
  listing : Fraction → (list : ℕ) → Call
  asking : (slot : ℕ) → Call

-- what a call that is carried out returns; a run returns how it ended and its steps
pub data Reply : Type 0 where
  done : Reply
  clock : Clock → Reply
  stepped : (number : ℕ) → Fraction → Option News → Reply
  ran : (ended steps : ℕ) → Reply
  touches : Bool → Reply
  certificate : Option Certificate → Reply

pub data Result : Type 0 where
  refused : ℕ → Result
  accepted : Reply → Result

-- what a call tells: its result, and what it writes at the start of the slip, the list and the page
pub record Answer : Type 0 where
  pub result : Result
  pub lines : List ℕ
  pub list : List ℕ
  pub page : List ℕ

-- the state after a call, and its answer
pub record Done : Type 0 where
  pub state : State
  pub answer : Answer

-- a result, with nothing written
abbrev pub only : Result → Answer
only r = record { result = r; lines = []; list = []; page = [] }
