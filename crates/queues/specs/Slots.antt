-- What comes of making a slot from a number.
use Rattle.std.specs.Prelude.{ℕ, Ok, Err, Result}
use Rattle.times.specs.declared.refusal.Refusal.{Refusal}
use Rattle.queues.specs.declared.slot.Slot.{Slot}

-- the slot's number, or the refusal
abbrev pub slot_told : Result Slot Refusal → Result ℕ Refusal
slot_told (Ok s) = Ok s.number
slot_told (Err e) = Err e
