-- The slot of what a certificate is of.
use Rattle.std.specs.Prelude.{ℕ}
use Rattle.rules.specs.Slots.{leg_slot}
use Rattle.slots.specs.declared.certified.Certified.{Certified}
use Rattle.slots.specs.declared.certified.Certified.TheVariants.{Bit, Leg}

abbrev pub slot_of : Certified → ℕ
slot_of (Bit b) = b.number
slot_of (Leg c) = leg_slot c.number
