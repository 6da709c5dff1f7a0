-- What a step, a run and the list tell, by what the model performs.
use Rattle.std.specs.Prelude.{◌≡◌, ℕ, List, length, Ok, Err}
use Rattle.std.specs.declared.result.Result as code
use Rattle.times.specs.declared.refusal.Refusal.{Refusal}
use Rattle.times.specs.Refusals.{number_of}
use Rattle.times.specs.Of.{time_of}
use Rattle.model.specs.Halls.{State}
use Rattle.model.specs.Calls.{Call, stepped, ran, Result, refused, accepted}
use Rattle.model.specs.Performing.{perform}
use Rattle.runs.specs.declared.stepping.Stepped.{Stepped}
use Rattle.runs.specs.declared.running.Ran.{Ran}
use Rattle.runs.specs.Encounters.{encounter_told}
use Rattle.runs.specs.Running.{ended_number}
use Rattle.hall.specs.declared.hall.Due.{Due}
use Rattle.hall.specs.Told.{Performed, Wrote, onto}

-- a step, and the count of its lines
abbrev pub step_told : code.Result Stepped Refusal → Result
step_told (Ok s) = accepted (stepped s.number (time_of s.time) (encounter_told s.news))
step_told (Err e) = refused (number_of e)

abbrev pub step_count : code.Result Stepped Refusal → ℕ
step_count (Ok s) = s.end
step_count (Err e) = 0

-- a call that also writes a page: from its start on, it led from p to p', and b counts the bytes
pub record Paged (call : Call) (z z' : State) (r : Result) (s s' : List ℕ) (n : ℕ) (p p' : List ℕ) (b : ℕ) : Type 0 where
  pub wrote : Wrote call z z' r s s' n
  pub page : p' ≡ onto (perform call z).answer.page p
  pub bytes : b ≡ length (perform call z).answer.page

-- a run, and the counts of its lines and bytes
abbrev pub run_told : code.Result (Due × Ran) (Due × Refusal) → Result
run_told (Ok p) = accepted (ran (ended_number p.1.ended) p.1.steps)
run_told (Err p) = refused (number_of p.1)

abbrev pub run_lines : code.Result (Due × Ran) (Due × Refusal) → ℕ
run_lines (Ok p) = p.1.lines
run_lines (Err p) = 0

abbrev pub run_bytes : code.Result (Due × Ran) (Due × Refusal) → ℕ
run_bytes (Ok p) = p.1.bytes
run_bytes (Err p) = 0

-- the clock comes back, carried out or refused
abbrev pub Back : {A B : Type 0} → Due → code.Result (Due × A) (Due × B) → Type 0
Back d (Ok p) = p.0 ≡ d
Back d (Err p) = p.0 ≡ d

-- a question that writes a list: from its start on, it led from s to s', and n counts the entries
pub record Listed (call : Call) (z : State) (r : Result) (s s' : List ℕ) (n : ℕ) : Type 0 where
  pub performed : Performed call z z r
  pub list : s' ≡ onto (perform call z).answer.list s
  pub count : n ≡ length (perform call z).answer.list
