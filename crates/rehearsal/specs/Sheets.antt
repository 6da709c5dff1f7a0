-- The text of a cue sheet.
use Rattle.std.specs.Prelude.{ℕ, List, ◌++◌, length, codes, decimal}
use Rattle.std.specs.List.{flat_map}
use Rattle.rehearsal.specs.declared.cues.Cue.{Cue}

-- a cue on a line
abbrev pub cue_text : Cue → List ℕ
cue_text c = codes "  " ++ (decimal c.tick ++ (codes " " ++ (decimal c.craft ++ codes "\n")))

-- how many cues there are, and each on a line
abbrev pub sheet_text : List Cue → List ℕ
sheet_text cs = (codes "cues: " ++ (decimal (length cs) ++ codes "\n")) ++ flat_map cue_text cs
