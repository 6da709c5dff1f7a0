use Rattle.std.proofs.Common.{codes, sym, ap, arith, rules}
use Rattle.std.proofs.lemmas.Slice.Eq.{text_from_reads}
use Rattle.console_read.specs.Keywords.{queue_of}
use Rattle.console_read.proofs.keyword.QueueTryFromRefSliceU8.try_from.Goals as goal

pub returns-in-calendar : goal.returns-in-calendar
returns-in-calendar c = sym (ap queue_of (text_from_reads c.args.word.now (codes "calendar") (omega arith) (search rules)))
