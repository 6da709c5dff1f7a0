-- What is granted once a craft's leg is read.
use Rattle.std.specs.Prelude.{ℕ, List, Option}
use Rattle.rules.specs.Stamps.{Stamp}
use Rattle.rules.specs.Paths.{Axis}
use Rattle.rules.specs.Slots.{leg_slot}
use Rattle.model.specs.Halls.{others}
use Rattle.model.specs.Moves.{then, each, on_axes, grant, enter_bit, drop_bit, at_break, renew}
use Rattle.floor_laws.specs.Writing.{Move}

-- on an axis, with the others listed
abbrev pub enters : ℕ → Stamp → Axis → List ℕ → Move
enters c k a ds = each (enter_bit a c k) ds

abbrev pub drops : ℕ → Axis → List ℕ → Move
drops c a ds = each (drop_bit a c) ds

abbrev pub renews : ℕ → Stamp → Axis → List ℕ → Move
renews c k a ds = renew c ds k a

-- after the leg was read: the moves on the axes, then the leg certificate with the break that the book told
abbrev pub reading : (Axis → List ℕ → Move) → ℕ → Option ℕ → Move
reading F c next m = then (on_axes (λ a. F a (others c m))) (grant (leg_slot c) (at_break next)) m
