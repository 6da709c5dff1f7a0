use Rattle.std.proofs.Common.{◌≡◌, Some, sym, arith, rules}
use Rattle.console_read.specs.Keywords.{keyword_of}
use Rattle.console_read.specs.declared.keyword.Keyword.TheVariants.{File}
use Rattle.console_read.specs.Shapes.{left}
use Rattle.console_read.proofs.Counts.{unread}
use Rattle.console_read.proofs.parsing.parse.Goals as goal
use Rattle.console_read.proofs.parsing.parse.Goals.{in-File, in_default-matches}

pub returns-then-not-may_file : goal.returns-then-not-may_file
returns-then-not-may_file c =
    let key : keyword_of c.in-Some.first.now ≡ Some File = elim c.match-matches.branch [ in-File w ↦ search rules | in_default-matches w ↦ search rules ] in
    unread c.args.line.now c.before_comment-text.result.now c.in-Some.first.now (left c.next.new.self) (omega arith) c.before_comment-text.ensures (search rules) key (sym c.if-not-may_file.ensures)
