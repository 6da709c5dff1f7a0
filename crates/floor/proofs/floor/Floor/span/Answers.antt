use Rattle.std.proofs.Common.{ap, ◌∙◌, ap₂}
use Rattle.rules.specs.Paths.{Line}
use Rattle.rules.specs.Boxes.{Box, ends}
use Rattle.fleet.specs.Axes.{axis_of}
use Rattle.model.specs.Halls.{Craft}
use Rattle.floor.proofs.floor.Floor.span.Goals as goal

pub returns : goal.returns
returns g c =
    let a = axis_of c.args.axis in
    c.new.ensures ∙ ap₂ (λ (b : Box) (l : Line). ends b a l) c.sizes.ensures c.leg.ensures ∙ ap (λ (r : Craft). ends r.box a (r.leg a)) c.record-record.ensures
