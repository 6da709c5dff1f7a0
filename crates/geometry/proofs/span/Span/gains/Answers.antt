use Rattle.std.proofs.Common.{Bool, true, false, cond, None, sym, ap, ◌∙◌}
use Rattle.times.specs.Of.{moment_of}
use Rattle.geometry_laws.specs.Quick.{met, gaining}
use Rattle.geometry.specs.Of.{span_of, gap_of}
use Rattle.geometry.proofs.Quotients.{closes_is}
use Rattle.geometry.proofs.span.Span.gains.Goals as goal

pub returns-then-bit : goal.returns-then-bit
returns-then-bit c =
    c.closing.ensures ∙ closes_is (span_of c.args.self).low (span_of c.args.other).high (gap_of c.between.result) true c.between.ensures
    ∙ ap (λ (b : Bool). gaining b (span_of c.args.self) (span_of c.args.other) (moment_of c.args.from)) (sym c.if-bit.true)

pub returns-then-clears : goal.returns-then-clears
returns-then-clears c =
    c.closing-then-clears.ensures ∙ closes_is (span_of c.args.other).low (span_of c.args.self).high (gap_of c.between-then-clears.result) false c.between-then-clears.ensures
    ∙ ap (λ (b : Bool). cond b (met (span_of c.args.other).low (span_of c.args.self).high false) None) (sym c.if-clears.true ∙ c.clears.ensures)
    ∙ ap (λ (b : Bool). gaining b (span_of c.args.self) (span_of c.args.other) (moment_of c.args.from)) (sym c.if-bit.false)
