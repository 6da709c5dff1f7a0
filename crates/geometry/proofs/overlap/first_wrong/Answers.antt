use Rattle.std.proofs.Common.{sym, ◌∙◌}
use Rattle.geometry.proofs.Wrong.{now_is, first_is, second_is, never_is}
use Rattle.geometry.proofs.overlap.first_wrong.Goals as goal

pub returns-then-overlaps-bit : goal.returns-then-overlaps-bit
returns-then-overlaps-bit c = now_is c.args.bit c.args.p c.args.q c.args.from c.overlaps.result c.overlaps.ensures c.if-overlaps-bit.true

pub returns-in-Greater : goal.returns-in-Greater
returns-in-Greater c = c.gains.ensures ∙ first_is c.args.bit c.args.p c.args.q c.args.from c.overlaps.result c.overlaps.ensures c.if-overlaps-bit.false (sym c.cmp.ensures ∙ c.in-Greater.is)

pub returns-in-Less : goal.returns-in-Less
returns-in-Less c = c.gains-in-Less.ensures ∙ second_is c.args.bit c.args.p c.args.q c.args.from c.overlaps.result c.overlaps.ensures c.if-overlaps-bit.false (sym c.cmp.ensures ∙ c.in-Less.is)

pub returns-in-Equal : goal.returns-in-Equal
returns-in-Equal c = never_is c.args.bit c.args.p c.args.q c.args.from c.overlaps.result c.overlaps.ensures c.if-overlaps-bit.false (sym c.cmp.ensures ∙ c.in-Equal.is)
