-- A step, what it tells, and a run of steps.
use Rattle.std.specs.Prelude.{ℕ, zero, suc, ◌-◌, Bool, true, false, cond, not, ◌||◌, List, [], ◌∷◌, ◌++◌, length, is_some, Some, None, Option, nat_lt}
use Rattle.rules.specs.Basics.{first_fit}
use Rattle.rules.specs.Fractions.{Fraction}
use Rattle.rules.specs.Stamps.{Stamp}
use Rattle.rules.specs.Pages.{News, met, parted, news_record}
use Rattle.model.specs.Halls.{Hall, together, left, next_due}
use Rattle.model.specs.Moves.{Out, fire, lower_of, higher_of}

-- what a firing did to a pair's overlap
abbrev pub news : (before after : Bool) → ℕ → ℕ → Option News
news true true c d = None
news true false c d = Some (parted c d)
news false true c d = Some (met c d)
news false false c d = None

-- of the pair that a slot names, in a hall and in the next
abbrev pub news_in : ℕ → Hall → Hall → Option News
news_in s m h = let c = lower_of s in let d = higher_of s in news (together c d m) (together c d h) c d

-- a step: the hall and the lines after a firing, the number fired, its time, and the news
pub record Step : Type 0 where
  pub out : Out
  pub number : ℕ
  pub time : Fraction
  pub news : Option News

abbrev pub step : ℕ → Stamp → Hall → Step
step s k m = let o = fire s k m in record {
  out = o;
  number = m.number s;
  time = k.time;
  news = cond (nat_lt s 12288) (news_in s m o.hall) None;
}

-- the page record of a step's news, if there is any
abbrev pub records : Fraction → Option News → List ℕ
records t None = []
records t (Some w) = news_record w t

-- a run: the hall, what is written, and how it ended after how many steps
pub record Ran : Type 0 where
  pub hall : Hall
  pub lines : List ℕ
  pub page : List ℕ
  pub ended : ℕ
  pub steps : ℕ

abbrev pub ended_with : ℕ → Hall → Ran
ended_with n m = record { hall = m; lines = []; page = []; ended = n; steps = 0 }

abbrev pub and_then : Step → Ran → Ran
and_then s r = record { hall = r.hall; lines = s.out.lines ++ r.lines; page = records s.time s.news ++ r.page; ended = r.ended; steps = suc r.steps }

-- how a run ends before a step, if it does: nothing is due, too few lines or bytes remain, too few numbers
abbrev pub ending : Option (ℕ × Stamp) → (lines bytes : ℕ) → Hall → Option ℕ
ending f lines bytes m = first_fit ((0, not (is_some f)) ∷ (15, nat_lt lines 380 || nat_lt bytes 11) ∷ (16, nat_lt (left m) 190) ∷ [])

-- after a step the run goes on with the room that is left
abbrev pub step_on : (ℕ → ℕ → Hall → Ran) → (lines bytes : ℕ) → Step → Ran
step_on more lines bytes s = and_then s (more (lines - length s.out.lines) (bytes - length (records s.time s.news)) s.out.hall)

abbrev pub run_on : (ℕ → ℕ → Hall → Ran) → Option (ℕ × Stamp) → Option ℕ → (lines bytes : ℕ) → Hall → Ran
run_on more f (Some n) lines bytes m = ended_with n m
run_on more None None lines bytes m = ended_with 0 m
run_on more (Some f) None lines bytes m = step_on more lines bytes (step f.0 f.1 m)

-- at most so many steps, with room for so many lines and bytes
abbrev pub run_in : ℕ → Fraction → (lines bytes : ℕ) → Hall → Ran
run_in zero goal lines bytes m = ended_with 0 m
run_in (suc k) goal lines bytes m = let f = next_due goal m in run_on (run_in k goal) f (ending f lines bytes m) lines bytes m

-- a run steps until nothing is due; each step grants a number, so it can make no more steps than numbers are left
abbrev pub run : Fraction → (lines bytes : ℕ) → Hall → Ran
run goal lines bytes m = run_in (suc (left m)) goal lines bytes m
