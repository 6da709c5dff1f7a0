-- The place that `position` gives, first by itself.
use Rattle.std.proofs.Common.{◌≡◌, eqb, position, rules, tests}
use Rattle.std.proofs.lemmas.Iterator.{YieldsList-from_slice}
use Rattle.std.proofs.lemmas.Iterator.Search.{position_from_yields_List}
use Rattle.console_text.proofs.text.find.Goals as goal

pub returns : goal.returns
returns c =
    let h : c.position.result ≡ position (λ b. eqb b c.args.byte) c.args.bytes.now = position_from_yields_List (λ b. eqb b c.args.byte) _ _ c.position.result c.position.ensures.ran (YieldsList-from_slice c.args.bytes.now (cc)) (λ x r q k. search (rules, tests)) in
    search rules
