use Rattle.std.proofs.Common.{◌∷◌, sym, ap, ◌∙◌}
use Rattle.console_read.specs.Shapes.{left}
use Rattle.console_read.specs.Parsing.{command_of}
use Rattle.console_read.specs.declared.keyword.Keyword.{Keyword}
use Rattle.console_read.proofs.parsing.command.Goals as goal

pub returns-in-Leave : goal.returns-in-Leave
returns-in-Leave c first = c.leave.ensures first ∙ ap (λ (k : Keyword). command_of k (first ∷ left c.args.rest)) (sym c.in-Leave.is)

pub returns-in-Set : goal.returns-in-Set
returns-in-Set c first = c.set.ensures first ∙ ap (λ (k : Keyword). command_of k (first ∷ left c.args.rest)) (sym c.in-Set.is)

pub returns-in-Step : goal.returns-in-Step
returns-in-Step c first = c.alone.ensures first ∙ ap (λ (k : Keyword). command_of k (first ∷ left c.args.rest)) (sym c.in-Step.is)

pub returns-in-Run : goal.returns-in-Run
returns-in-Run c first = c.alone-in-Run.ensures first ∙ ap (λ (k : Keyword). command_of k (first ∷ left c.args.rest)) (sym c.in-Run.is)

pub returns-in-Rest : goal.returns-in-Rest
returns-in-Rest c first = c.alone-in-Rest.ensures first ∙ ap (λ (k : Keyword). command_of k (first ∷ left c.args.rest)) (sym c.in-Rest.is)

pub returns-in-List : goal.returns-in-List
returns-in-List c first = c.alone-in-List.ensures first ∙ ap (λ (k : Keyword). command_of k (first ∷ left c.args.rest)) (sym c.in-List.is)

pub returns-in-Certificate : goal.returns-in-Certificate
returns-in-Certificate c first = c.certificate.ensures first ∙ ap (λ (k : Keyword). command_of k (first ∷ left c.args.rest)) (sym c.in-Certificate.is)

pub returns-in-Cues : goal.returns-in-Cues
returns-in-Cues c first = c.alone-in-Cues.ensures first ∙ ap (λ (k : Keyword). command_of k (first ∷ left c.args.rest)) (sym c.in-Cues.is)
