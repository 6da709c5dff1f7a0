use Rattle.std.proofs.Common.{◌≡◌, ◌++◌, length, take, string_bytes, codes, decimal}
use Rattle.std.specs.List.{flat_map}
use Rattle.rehearsal.specs.Sheets.{cue_text}
use Rattle.rehearsal.proofs.cues.tell.Given as goal

-- the cues so far are written
abbrev pub invariant-loop-cue : goal.invariant-loop-cue
invariant-loop-cue l =
    string_bytes l.out ≡ string_bytes l.fn.out ++ ((codes "cues: " ++ (decimal (length l.sheet) ++ codes "\n")) ++ flat_map cue_text (take l.cue-index l.sheet))
