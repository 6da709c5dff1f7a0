use Rattle.std.proofs.Common.{length, inl, ap, arith}
use Rattle.console_text.proofs.Scan.{words_fit}
use Rattle.console_text.proofs.words.count.Goals as goal

pub count-requires-clause-fits : goal.count-requires-clause-fits
count-requires-clause-fits c = inl (omega (arith, words_fit c.new.result.rest.now, ap length c.new.ensures))
