-- The texts of answers.
use Rattle.std.specs.Prelude.{ℕ, Bool, List, ◌++◌, Some, None, Ok, Err, codes, decimal, Option, Result}
use Rattle.times.specs.declared.refusal.Refusal.{Refusal}
use Rattle.times.specs.Refusals.{number_of}
use Rattle.plans.specs.declared.answer.LegAnswer.{LegAnswer}
use Rattle.console_write.specs.Texts.{break_words, motion_text, yes_text}

abbrev pub refused_text : List ℕ → ℕ → List ℕ
refused_text word r = word ++ (codes ": refused " ++ (decimal r ++ codes "\n"))

abbrev pub said_text : List ℕ → List ℕ → List ℕ
said_text word text = word ++ (codes ": " ++ (text ++ codes "\n"))

-- what a change answers: ok, or its refusal
abbrev pub change_text : List ℕ → Option ℕ → List ℕ
change_text word None = said_text word (codes "ok")
change_text word (Some r) = refused_text word r

-- what the follow question answers
abbrev pub follow_text : List ℕ → Result Bool ℕ → List ℕ
follow_text word (Ok b) = said_text word (yes_text b)
follow_text word (Err r) = refused_text word r

-- what the leg question answers
abbrev pub leg_text : Result LegAnswer Refusal → List ℕ
leg_text (Ok l) = codes "leg: x " ++ (motion_text l.lines.x ++ (codes "; y " ++ (motion_text l.lines.y ++ (codes "; z " ++ (motion_text l.lines.z ++ (codes "; " ++ (break_words l.next ++ codes "\n")))))))
leg_text (Err e) = refused_text (codes "leg") (number_of e)
