use Rattle.std.proofs.Common.{rules}
use Rattle.tables.proofs.Places.{same_box}
use Rattle.tables.proofs.craft.CraftRecord.sizes.Goals as goal

pub returns : goal.returns
returns c = search (rules, same_box)
