-- The tables of the code as those functions.
use Rattle.std.specs.Prelude.{false, slice_index, slice_index_or}
use Rattle.tables.specs.declared.tables.Tables.{Tables}
use Rattle.tables.specs.Crafts.{records_in}
use Rattle.tables.specs.Tables.{Table}

abbrev pub table : Tables → Table
table t = record { craft = records_in t.craft; bit = λ s. slice_index_or t.bits s false; number = λ s. slice_index t.numbers s; last = t.last }
