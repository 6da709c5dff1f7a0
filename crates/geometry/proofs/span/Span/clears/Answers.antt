use Rattle.std.proofs.Common.{ap, ◌∙◌}
use Rattle.rules.specs.Paths.{Line}
use Rattle.times.specs.Of.{moment_of}
use Rattle.geometry.specs.Of.{span_of, above_zero}
use Rattle.geometry.proofs.Quotients.{above_behind}
use Rattle.geometry.proofs.span.Span.clears.Goals as goal

pub returns : goal.returns
returns c =
    c.open.ensures ∙ ap (λ (l : Line). above_zero l (moment_of c.args.m)) c.between.ensures
    ∙ above_behind (span_of c.args.self).low (span_of c.args.other).high (moment_of c.args.m)
