use Rattle.std.proofs.Common.{ap, ◌∙◌}
use Rattle.rules.specs.Basics.{the}
use Rattle.model.specs.Moves.{nobody}
use Rattle.tables.specs.Crafts.{record_of}
use Rattle.tables.proofs.Places.{record_or}
use Rattle.tables.proofs.tables.Tables.record.Goals as goal

pub returns : goal.returns
returns c = ap record_of c.unwrap_or.ensures ∙ record_or _ _ c.nobody.ensures ∙ ap (the nobody) c.craft_at.ensures
