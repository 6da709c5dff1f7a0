use Rattle.std.proofs.Common.{pos, ap, ◌∙◌, arith}
use Rattle.geometry.proofs.Bound.{line_fits, line_is}
use Rattle.geometry.proofs.gap.Gap.scaled.Goals as goal

pub overflow_add-result : goal.overflow_add-result
overflow_add-result c =
    line_fits c.args.self.a c.from.result c.args.self.v c.from-2.result c.args.t.d c.args.t.n c.args.self.near (c.from.ensures ∙ ap pos c.denominator.ensures) c.args.t.small
    c.args.self.slow (c.from-2.ensures ∙ ap pos c.numerator.ensures) (omega arith)

pub returns : goal.returns
returns c =
    line_is c.args.self.a c.from.result c.args.self.v c.from-2.result c.args.t.d c.args.t.n c.args.self.near (c.from.ensures ∙ ap pos c.denominator.ensures) c.args.t.small
    c.args.self.slow (c.from-2.ensures ∙ ap pos c.numerator.ensures) (omega arith)
