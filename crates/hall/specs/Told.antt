-- What a call of the code led to and told, by what the model performs.
use Rattle.std.specs.Prelude.{◌≡◌, ℕ, Bool, cond, List, ◌++◌, length, drop, Some, None, Ok, Err, Option}
use Rattle.std.specs.declared.result.Result as code
use Rattle.rules.specs.Fractions.{tick}
use Rattle.rules.specs.Books.{Book}
use Rattle.rules.specs.Slots.{Queue}
use Rattle.times.specs.declared.refusal.Refusal.{Refusal}
use Rattle.times.specs.Refusals.{number_of}
use Rattle.model.specs.Halls.{quiet, State, opened}
use Rattle.model.specs.Calls.{Call, Reply, done, clock, Result, refused, accepted}
use Rattle.model.specs.Refusals.{opening_refusal}
use Rattle.model.specs.Performing.{perform}
use Rattle.hall.specs.declared.hall.Hall as hall
use Rattle.hall.specs.declared.hall.Quiet.{Quiet}
use Rattle.hall.specs.declared.hall.Due.{Due}
use Rattle.hall.specs.Of.{quiet_of, due_of, state_of}

-- the number of a refusal, where there is one
abbrev pub refused_by : {A : Type 0} → code.Result A Refusal → Option ℕ
refused_by (Ok x) = None
refused_by (Err e) = Some (number_of e)

-- one row of the table alone: its number where it fits
abbrev pub row : ℕ → Bool → Option ℕ
row n fits = cond fits (Some n) None

-- a call led from the state z to z' and was told r
pub record Performed (call : Call) (z z' : State) (r : Result) : Type 0 where
  pub state : z' ≡ (perform call z).state
  pub result : r ≡ (perform call z).answer.result

-- ls at the start of what was lent, the rest of it as it was
abbrev pub onto : List ℕ → List ℕ → List ℕ
onto ls s = ls ++ drop (length ls) s

-- the same, and the call's lines were written from the slip's start on: it led from s to s', and n counts the lines
pub record Wrote (call : Call) (z z' : State) (r : Result) (s s' : List ℕ) (n : ℕ) : Type 0 where
  pub performed : Performed call z z' r
  pub slip : s' ≡ onto (perform call z).answer.lines s
  pub count : n ≡ length (perform call z).answer.lines

-- results as the model has them: of a call that writes lines, and their count
abbrev pub done_told : code.Result ℕ Refusal → Result
done_told (Ok n) = accepted done
done_told (Err e) = refused (number_of e)

abbrev pub count_told : code.Result ℕ Refusal → ℕ
count_told (Ok n) = n
count_told (Err e) = 0

-- of a question
abbrev pub answer_told : {A : Type 0} → (A → Reply) → code.Result A Refusal → Result
answer_told f (Ok x) = accepted (f x)
answer_told f (Err e) = refused (number_of e)

-- of setting and resting, with the clock handed back where it is refused
abbrev pub set_told : code.Result Due (Quiet × Refusal) → Result
set_told (Ok d) = accepted (clock (due_of d))
set_told (Err p) = refused (number_of p.1)

abbrev pub rest_told : code.Result Quiet (Due × Refusal) → Result
rest_told (Ok q) = accepted (clock (quiet_of q))
rest_told (Err p) = refused (number_of p.1)

abbrev pub BackIfRefused : {A B : Type 0} → A → code.Result B (A × Refusal) → Type 0
BackIfRefused k (Ok x) = Unit {0}
BackIfRefused k (Err p) = p.0 ≡ k

-- opening over a book and a queue: the state as opened with a quiet clock at 0, or both back
module _ {B Q : Type 0} where
  abbrev pub Opening : (meaning : B → Book) → (holds : Q → Queue) → B → Q → code.Result (hall.Hall B Q × Quiet) (B × Q × Refusal) → Type 0
  Opening meaning holds b q (Ok p) =
      (opening_refusal (meaning b) (holds q) ≡ None) × (state_of meaning holds p.0 ≡ opened (meaning b)) × (quiet_of p.1 ≡ quiet (tick 0))
  Opening meaning holds b q (Err p) =
      (opening_refusal (meaning b) (holds q) ≡ Some (number_of p.2)) × (p.0 ≡ b) × (p.1 ≡ q)
