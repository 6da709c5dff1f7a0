use Rattle.std.proofs.Common.{rules}
use Rattle.console_text.proofs.Scan.{next_word, no_word}
use Rattle.console_text.proofs.words.WordsIterator.next.Goals as goal

pub returns-in_err-start-clause-steps : goal.returns-in_err-start-clause-steps
returns-in_err-start-clause-steps c = let h = no_word c.args.self.now.rest.now c.in_err-start.ensures in search rules

pub returns-clause-steps : goal.returns-clause-steps
returns-clause-steps c = let h = next_word c.args.self.now.rest.now c.in_ok-start.start c.unwrap_or-end.result c.in_ok-start.ensures (cc) in cc

pub returns-clause-goes : goal.returns-clause-goes
returns-clause-goes c = let h = returns-clause-steps c in search rules
