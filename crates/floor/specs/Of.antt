-- The floor of the code as a hall of the model.
use Rattle.std.specs.Prelude.{ℕ, List, Some, None, Option}
use Rattle.rules.specs.Stamps.{Stamp}
use Rattle.rules.specs.Paths.{Axis}
use Rattle.rules.specs.Books.{Book}
use Rattle.rules.specs.Slots.{Queue, leg_slot}
use Rattle.times.specs.declared.moment.Moment.{Moment}
use Rattle.times.specs.Of.{moment_of}
use Rattle.queues.specs.Meanings.{stored}
use Rattle.model.specs.Halls.{Hall, Certificate, others}
use Rattle.model.specs.Moves.{then, on_axes, grant}
use Rattle.floor_laws.specs.Writing.{Move}
use Rattle.queues.specs.declared.entry.Entry.{Entry}
use Rattle.tables.specs.Tables.{Table}
use Rattle.tables.specs.Of.{table}
use Rattle.floor.specs.declared.floor.Floor as code

abbrev pub joined : Book → Queue → Table → Hall
joined b q t = record { book = b; craft = t.craft; bit = t.bit; number = t.number; queue = q; last = t.last }

module _ {B Q : Type 0} where
  abbrev pub hall_of : (B → Book) → (Q → Queue) → code.Floor B Q → Hall
  hall_of meaning holds f = joined (meaning f.book) (holds f.queue) (table f.tables)

-- what a hall is given once a craft's leg is read: the moves on the axes, then the leg certificate, which fails at that moment
abbrev pub read_then : (Axis → List ℕ → Move) → ℕ → Option Stamp → Move
read_then F c o m = then (on_axes (λ a. F a (others c m))) (grant (leg_slot c) o) m

-- a certificate that the code told
abbrev pub certificate_told : Option (ℕ × Option Moment) → Option Certificate
certificate_told None = None
certificate_told (Some k) = Some (record { number = k.0; fails = stored k.1 })

-- what the code told to be due
abbrev pub due_told : Option Entry → Option (ℕ × Stamp)
due_told None = None
due_told (Some d) = Some (d.slot.number, moment_of d.moment)
