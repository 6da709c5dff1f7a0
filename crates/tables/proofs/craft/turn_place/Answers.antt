use Rattle.std.proofs.Common.{Some, Option, sym, ap, ◌∙◌}
use Rattle.rules.specs.Boxes.{Box}
use Rattle.plans.specs.Routes.{answer_of}
use Rattle.tables.specs.Crafts.{with_legs, record_in, turned}
use Rattle.tables.specs.declared.craft.CraftRecord.{CraftRecord}
use Rattle.tables.proofs.Places.{least_box}
use Rattle.tables.proofs.craft.turn_place.Goals as goal

pub returns-in-Some : goal.returns-in-Some
returns-in-Some c = ap Some c.turn.ensures ∙ ap (λ (o : Option CraftRecord). turned (answer_of c.args.legs).0 (record_in o)) (sym c.in-Some.is)

pub returns-in-None : goal.returns-in-None
returns-in-None c = ap Some (c.new.ensures ∙ ap (λ (b : Box). with_legs b (answer_of c.args.legs).0) (least_box _ c.least.ensures))
    ∙ ap (λ (o : Option CraftRecord). turned (answer_of c.args.legs).0 (record_in o)) (sym c.in-None.is)
