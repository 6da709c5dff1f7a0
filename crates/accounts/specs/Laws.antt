-- What is shown of every list of calls: that its history agrees with the state, and the accounts; and that a run ends.
use Rattle.std.specs.Prelude.{◌≡◌, ℕ, ◌≤◌, List, length, Some, None, Option}
use Rattle.rules.specs.Fractions.{Fraction}
use Rattle.rules.specs.Books.{Book}
use Rattle.rules.specs.Boxes.{Box}
use Rattle.model.specs.Halls.{Craft, Hall, opened, next_due}
use Rattle.model.specs.Calls.{Call}
use Rattle.model.specs.Runs.{run, run_on, ending}
use Rattle.model.specs.Histories.{after, changes, book_now, boxes_now, clock_now}
use Rattle.model.specs.Statement.{story, Accounts}

-- the boxes of the entered craft
abbrev pub box_in : Option Craft → Option Box
box_in None = None
box_in (Some r) = Some r.box

abbrev pub boxes : Hall → ℕ → Option Box
boxes m c = box_in (m.craft c)

-- what a history tells by itself is what the state has
pub record Agrees (b : Book) (calls : List Call) : Type 0 where
  pub clock : clock_now (story b calls) ≡ (after calls (opened b)).clock
  pub book : book_now b (changes (story b calls)) ≡ (after calls (opened b)).hall.book
  pub boxes : boxes_now (changes (story b calls)) ≡ boxes (after calls (opened b)).hall

abbrev pub HistoriesAgree : Type 0
HistoriesAgree = (b : Book) (calls : List Call) → Agrees b calls

abbrev pub AccountsHold : Type 0
AccountsHold = (b : Book) (calls : List Call) → Accounts b calls

-- A run ends with 0 only where nothing is due, and what it writes fits what is lent.
pub record RunEnds (goal : Fraction) (lines bytes : ℕ) (m : Hall) : Type 0 where
  pub ends : (run goal lines bytes m).ended ≡ 0 → next_due goal (run goal lines bytes m).hall ≡ None
  pub slip : length (run goal lines bytes m).lines ≤ lines
  pub page : length (run goal lines bytes m).page ≤ bytes
  -- after a step it is the run from there, so that its count of steps never runs out
  pub again : run goal lines bytes m ≡ run_on (run goal) (next_due goal m) (ending (next_due goal m) lines bytes m) lines bytes m

abbrev pub RunsEnd : Type 0
RunsEnd = (goal : Fraction) (lines bytes : ℕ) (m : Hall) → RunEnds goal lines bytes m
