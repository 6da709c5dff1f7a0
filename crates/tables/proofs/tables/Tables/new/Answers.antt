use Rattle.std.proofs.Common.{ℕ, Bool, false, None, Option, arith}
use Rattle.std.proofs.lemmas.List.{length-replicate}
use Rattle.tables.specs.declared.craft.CraftRecord.{CraftRecord}
use Rattle.tables.specs.Crafts.{record_in}
use Rattle.tables.proofs.Places.{granted_none, table_none, empty_is}
use Rattle.tables.proofs.tables.Tables.new.Goals as goal

pub invariant_of-result : goal.invariant_of-result
invariant_of-result c = record {
  sizes = (length-replicate {A = Option CraftRecord} 64 None, length-replicate 12288 false, length-replicate {A = ℕ} 12352 0);
  few = omega arith;
  granted = granted_none 12352 0;
}

pub returns : goal.returns
returns c = empty_is _ _ _ (table_none record_in 64 None) (table_none (λ (b : Bool). b) 12288 false) (table_none (λ (n : ℕ). n) 12352 0)
