use Rattle.std.proofs.Common.{◌≡◌, List, ℕ, ◌++◌, length}
use Rattle.std.specs.Fmt.{HasWritten, IsPlainFormatter}
use Rattle.console_write.specs.Pages.{records_text}
use Rattle.console_write.proofs.pages_told.RecordsDisplay.fmt.Given as goal

-- some lines are written, and with those of what is left they are all
abbrev pub invariant-records : goal.invariant-records
invariant-records g l =
    IsPlainFormatter l.fn.f → (w : List ℕ) × HasWritten g.W.Write.write_str_gives l.fn.f w l.f × (w ++ records_text l.reader.rest.now ≡ records_text l.self.0.now)

abbrev pub decreases-records : goal.decreases-records
decreases-records g l = length l.reader.rest.now
