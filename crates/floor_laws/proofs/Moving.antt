-- What each move leaves: numbers never fall; moves of certificates leave the craft and the book.
use Rattle.std.proofs.Common.{ℕ, true, List, Option, refl, ◌∙◌, arith}
use Rattle.rules.specs.Stamps.{Stamp}
use Rattle.rules.specs.Paths.{Axis, X, Y, Z}
use Rattle.rules.specs.Boxes.{Box}
use Rattle.rules.specs.Slots.{slot}
use Rattle.model.specs.Halls.{others}
use Rattle.model.specs.Moves.{then, each, on_axes, withdrawn, grant, take_away, grant_bit, enter_bit, drop_bit, grant_leg, enter, leave, read_leg}
use Rattle.floor_laws.specs.Writing.{Move, Grows, Leaves, withdraw}
use Rattle.floor_laws.proofs.Writes.{grows_then}
use Rattle.floor_laws.proofs.Loops.{grows_each}

pub leaves_then : (f g : Move) → Leaves f → Leaves g → Leaves (then f g)
leaves_then f g a b m = ((b (f m).hall).0 ∙ (a m).0, (b (f m).hall).1 ∙ (a m).1)

pub leaves_axes : (f : Axis → Move) → ((a : Axis) → Leaves (f a)) → Leaves (on_axes f)
leaves_axes f l = leaves_then (f X) (then (f Y) (f Z)) (l X) (leaves_then (f Y) (f Z) (l Y) (l Z))

pub grows_axes : (f : Axis → Move) → ((a : Axis) → Grows (f a)) → Grows (on_axes f)
grows_axes f u = grows_then (f X) (then (f Y) (f Z)) (u X) (grows_then (f Y) (f Z) (u Y) (u Z))

pub grant_grows : (s : ℕ) (f : Option Stamp) → Grows (grant s f)
grant_grows s f m = omega arith

pub take_grows : (line : ℕ → ℕ) (s : ℕ) → Grows (take_away line s)
take_grows line s m = omega arith

pub grant_bit_grows : (a : Axis) (c : ℕ) (k : Stamp) (d : ℕ) → Grows (λ m. grant_bit a c d k m)
grant_bit_grows a c k d m = omega arith

pub enter_bit_grows : (a : Axis) (c : ℕ) (k : Stamp) (d : ℕ) → Grows (enter_bit a c k d)
enter_bit_grows a c k d m = omega arith

pub drop_bit_grows : (a : Axis) (c d : ℕ) → Grows (drop_bit a c d)
drop_bit_grows a c d m = omega arith

pub grant_leg_grows : (c : ℕ) (k : Stamp) → Grows (grant_leg c k)
grant_leg_grows c k m = omega arith

pub enter_bit_leaves : (a : Axis) (c : ℕ) (k : Stamp) (d : ℕ) → Leaves (enter_bit a c k d)
enter_bit_leaves a c k d m = (refl, refl)

pub grant_bit_leaves : (a : Axis) (c : ℕ) (k : Stamp) (d : ℕ) → Leaves (λ m. grant_bit a c d k m)
grant_bit_leaves a c k d m = (refl, refl)

pub take_leaves : (line : ℕ → ℕ) (s : ℕ) → Leaves (take_away line s)
take_leaves line s m = (refl, refl)

pub drop_bit_leaves : (a : Axis) (c d : ℕ) → Leaves (drop_bit a c d)
drop_bit_leaves a c d m = (refl, refl)

-- the bits of a craft with others, on one axis
pub enter_bits_grows : (a : Axis) (c : ℕ) (k : Stamp) (ds : List ℕ) → Grows (each (enter_bit a c k) ds)
enter_bits_grows a c k ds = grows_each (enter_bit a c k) (λ _. true) (enter_bit_grows a c k) ds

pub drop_bits_grows : (a : Axis) (c : ℕ) (ds : List ℕ) → Grows (each (drop_bit a c) ds)
drop_bits_grows a c ds = grows_each (drop_bit a c) (λ _. true) (drop_bit_grows a c) ds

pub withdraw_grows : (a : Axis) (c : ℕ) (ds : List ℕ) → Grows (each (λ d. take_away withdrawn (slot a c d)) ds)
withdraw_grows a c ds = grows_each (λ d. take_away withdrawn (slot a c d)) (λ _. true) (λ d. take_grows withdrawn (slot a c d)) ds

pub grant_bits_grows : (a : Axis) (c : ℕ) (k : Stamp) (ds : List ℕ) → Grows (each (λ d. grant_bit a c d k) ds)
grant_bits_grows a c k ds = grows_each (λ d. grant_bit a c d k) (λ _. true) (grant_bit_grows a c k) ds

pub enter_grows : (c : ℕ) (b : Box) (k : Stamp) → Grows (enter c b k)
enter_grows c b k m =
    grows_then (on_axes (λ a. each (enter_bit a c k) (others c m))) (grant_leg c k)
    (grows_axes (λ a. each (enter_bit a c k) (others c m)) (λ a. enter_bits_grows a c k (others c m))) (grant_leg_grows c k) (read_leg c b k m)

pub leave_grows : (c : ℕ) → Grows (leave c)
leave_grows c m =
    let u = grows_axes (λ a. each (drop_bit a c) (others c m)) (λ a. drop_bits_grows a c (others c m)) m in
    omega arith

pub withdraw_leaves : (a : Axis) (c d : ℕ) → Leaves (withdraw a c d)
withdraw_leaves a c d = take_leaves withdrawn (slot a c d)

pub withdraw_one_grows : (a : Axis) (c d : ℕ) → Grows (withdraw a c d)
withdraw_one_grows a c d = take_grows withdrawn (slot a c d)
