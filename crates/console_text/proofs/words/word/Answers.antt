use Rattle.std.proofs.Common.{refl, ap, ◌∙◌, arith}
use Rattle.std.proofs.lemmas.Iterator.Consumers.{nth_from_yields_List, YieldsList-from_first}
use Rattle.console_text.proofs.Scan.{word_at}
use Rattle.console_text.specs.Texts.{words}
use Rattle.console_text.proofs.words.word.Goals as goal

pub returns : goal.returns
returns c =
    let ws = words c.args.bytes.now in
    ap (λ b. b.now) c.unwrap_or.ensures
    ∙ word_at ws _ c.args.k c.nth.result _ (nth_from_yields_List c.nth.result c.nth.new.self _ c.nth.ensures.ran (YieldsList-from_first (λ x. x.now) (λ s. words s.rest.now) ws (ap words c.new.ensures))) refl (omega arith)
