-- What a run leaves and tells.
use Rattle.std.specs.Prelude.{◌≡◌, ℕ, ◌<◌, ◌≤◌, List, ◌++◌, length, drop, Some, None}
use Rattle.rules.specs.Fractions.{Fraction}
use Rattle.rules.specs.Stamps.{Stamp}
use Rattle.model.specs.Halls.{Hall, left, next_due}
use Rattle.model.specs.Runs.{run, ending}
use Rattle.runs.specs.declared.ended.Ended.{Ended}
use Rattle.runs.specs.declared.ended.Ended.TheVariants.{NothingDue, Room, Numbers}

-- the number with which a run ends
abbrev pub ended_number : Ended → ℕ
ended_number NothingDue = 0
ended_number Room = 15
ended_number Numbers = 16

-- a run goes on with f: it is due, and there is room for its lines and its record, and numbers enough
pub record Next (goal : Fraction) (lines bytes : ℕ) (m : Hall) (f : ℕ × Stamp) : Type 0 where
  pub due : next_due goal m ≡ Some f
  pub goes : ending (next_due goal m) lines bytes m ≡ None
  pub slot : f.0 < 12352
  pub room : 380 ≤ lines
  pub space : 11 ≤ bytes
  pub numbers : 190 ≤ left m

-- a run ends before a step with n
pub record Stop (goal : Fraction) (lines bytes : ℕ) (m : Hall) (n : ℕ) : Type 0 where
  pub ends : ending (next_due goal m) lines bytes m ≡ Some n

-- A run to a goal led from the hall m to m', and wrote at the start of the slip s and of the page p;
-- it ended with e after k steps, with n lines and b bytes written.
pub record Went (goal : Fraction) (m m' : Hall) (s s' p p' : List ℕ) (e k n b : ℕ) : Type 0 where
  pub hall : m' ≡ (run goal (length s) (length p) m).hall
  pub slip : s' ≡ (run goal (length s) (length p) m).lines ++ drop n s
  pub page : p' ≡ (run goal (length s) (length p) m).page ++ drop b p
  pub ended : e ≡ (run goal (length s) (length p) m).ended
  pub steps : k ≡ (run goal (length s) (length p) m).steps
  pub lines : n ≡ length (run goal (length s) (length p) m).lines
  pub bytes : b ≡ length (run goal (length s) (length p) m).page
