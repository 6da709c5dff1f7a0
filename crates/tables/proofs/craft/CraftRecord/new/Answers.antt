use Rattle.std.proofs.Common.{rules}
use Rattle.tables.proofs.Places.{same_box, same_record}
use Rattle.tables.proofs.craft.CraftRecord.new.Goals as goal

pub returns : goal.returns
returns c = same_record _ _ _ (search (rules, same_box))
