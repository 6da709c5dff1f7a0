use Rattle.std.proofs.Common.{codes, sym, ap, arith, rules}
use Rattle.std.proofs.lemmas.Slice.Eq.{text_from_reads}
use Rattle.console_read.specs.Keywords.{keyword_of}
use Rattle.console_read.proofs.keyword.KeywordTryFromRefSliceU8.try_from.Goals as goal

pub returns-in-follows : goal.returns-in-follows
returns-in-follows c = sym (ap keyword_of (text_from_reads c.args.word.now (codes "follows") (omega arith) (search rules)))

pub returns-in-touching : goal.returns-in-touching
returns-in-touching c = sym (ap keyword_of (text_from_reads c.args.word.now (codes "touching") (omega arith) (search rules)))

pub returns-in-certificate : goal.returns-in-certificate
returns-in-certificate c = sym (ap keyword_of (text_from_reads c.args.word.now (codes "certificate") (omega arith) (search rules)))
