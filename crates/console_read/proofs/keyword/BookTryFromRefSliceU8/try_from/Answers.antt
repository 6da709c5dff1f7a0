use Rattle.std.proofs.Common.{codes, sym, ap, arith, rules}
use Rattle.std.proofs.lemmas.Slice.Eq.{text_from_reads}
use Rattle.console_read.specs.Keywords.{book_of}
use Rattle.console_read.proofs.keyword.BookTryFromRefSliceU8.try_from.Goals as goal

pub returns-in-single : goal.returns-in-single
returns-in-single c = sym (ap book_of (text_from_reads c.args.word.now (codes "single") (omega arith) (search rules)))

pub returns-in-itinerary : goal.returns-in-itinerary
returns-in-itinerary c = sym (ap book_of (text_from_reads c.args.word.now (codes "itinerary") (omega arith) (search rules)))
