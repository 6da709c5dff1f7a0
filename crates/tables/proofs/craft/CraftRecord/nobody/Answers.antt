use Rattle.std.proofs.Common.{rules}
use Rattle.tables.proofs.Places.{least_box, at_rest}
use Rattle.tables.proofs.craft.CraftRecord.nobody.Goals as goal

pub returns : goal.returns
returns c = at_rest _ (least_box _ (search rules))
