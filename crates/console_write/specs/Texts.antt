-- The texts of answers.
use Rattle.std.specs.Prelude.{ℕ, ◌/◌, ◌%◌, Bool, cond, List, [], ◌∷◌, ◌++◌, ℤ, Some, None, codes, decimal, Option}
use Rattle.std.specs.List.{flat_map}
use Rattle.std.specs.Fmt.{signed_decimal, ◌++?◌}
use Rattle.times.specs.declared.moment.Moment.{Moment}
use Rattle.times.specs.Of.{time_of}
use Rattle.times.specs.Texts.{fraction_text}
use Rattle.pages.specs.declared.report.Kind.{Kind}
use Rattle.pages.specs.declared.report.Kind.TheVariants.{Meeting, Parting}
use Rattle.pages.specs.declared.report.Encounter.{Encounter}

-- each slip line after one space
abbrev pub line_text : ℕ → List ℕ
line_text x = codes " " ++ decimal x

abbrev pub lines_text : List ℕ → List ℕ
lines_text ls = flat_map line_text ls

-- the word of a report's kind
abbrev pub kind_text : Kind → List ℕ
kind_text Meeting = codes "met"
kind_text Parting = codes "parted"

-- what a step told
abbrev pub encounter_text : Option Encounter → List ℕ
encounter_text (Some e) = kind_text e.kind ++ (codes " " ++ (decimal e.lower ++ (codes " " ++ decimal e.higher)))
encounter_text None = codes "neither"

abbrev pub yes_text : Bool → List ℕ
yes_text b = cond b (codes "yes") (codes "no")

-- a line A + V × t on an axis
abbrev pub motion_text : ℤ × ℤ → List ℕ
motion_text m = signed_decimal m.0 ++ (codes " " ++ signed_decimal m.1)

-- when a certificate fails
abbrev pub failing_text : Option Moment → List ℕ
failing_text (Some m) = codes "at " ++ (fraction_text (time_of m.time) ++ (codes " side " ++ decimal (cond m.after 1 0)))
failing_text None = codes "never"

-- what stands after the answer on a certificate, where b stood before
abbrev pub certificate_after : List ℕ → ℕ → Option Moment → List ℕ
certificate_after b n o = b ++ (codes "certificate: " ++ (decimal n ++ (codes " " ++ (failing_text o ++ codes "\n"))))

abbrev pub break_words : Option ℕ → List ℕ
break_words (Some t) = codes "break " ++ decimal t
break_words None = codes "break none"

-- a pair of touching craft
abbrev pub entry_text : ℕ → List ℕ
entry_text e = codes " " ++ (decimal (e / 64) ++ (codes "-" ++ decimal (e % 64)))

-- the pairs of touching craft, or none
abbrev pub touching_text : List ℕ → List ℕ
touching_text [] = codes " none"
touching_text (e ∷ es) = flat_map entry_text (e ∷ es)

-- a word, and what is said of it
abbrev pub said_after : Option (List ℕ) → Option (List ℕ) → Option (List ℕ)
said_after word text = word ++? Some (codes ": ") ++? text ++? Some (codes "\n")
