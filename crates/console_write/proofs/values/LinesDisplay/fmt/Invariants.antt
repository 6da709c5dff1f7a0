use Rattle.std.proofs.Common.{◌++◌, take, codes}
use Rattle.std.specs.Fmt.{HasWritten, IsPlainFormatter}
use Rattle.console_write.specs.Texts.{lines_text}
use Rattle.console_write.proofs.values.LinesDisplay.fmt.Given as goal

-- the lines so far are written
abbrev pub invariant-loop-line : goal.invariant-loop-line
invariant-loop-line g l =
    IsPlainFormatter l.fn.f → HasWritten g.W.Write.write_str_gives l.fn.f (codes "lines" ++ lines_text (take l.line-index l.self.0.now)) l.f
