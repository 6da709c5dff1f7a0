-- Entering, leaving and firing, as the code makes them.
use Rattle.std.proofs.Common.{◌≡◌, ℕ, true, List, Some, Option, sym, ap, ◌∙◌, subst}
use Rattle.rules.specs.Stamps.{Stamp}
use Rattle.rules.specs.Paths.{Axis}
use Rattle.rules.specs.Books.{Book, break_after}
use Rattle.rules.specs.Boxes.{Box}
use Rattle.rules.specs.Slots.{leg_slot}
use Rattle.model.specs.Halls.{Hall, others}
use Rattle.model.specs.Moves.{then, each, on_axes, grant, enter_bit, drop_bit, at_break, grant_leg, read_leg}
use Rattle.floor_laws.specs.Writing.{Move, Wrote, Fits, Grows, Leaves, withdraw, regrant}
use Rattle.floor_laws.specs.Reading.{enters, drops, renews, reading}
use Rattle.floor_laws.proofs.Writes.{wrote_then, fits_first, fits_second, first_room, grows_then}
use Rattle.floor_laws.proofs.Loops.{grows_each, leaves_each, others_with}
use Rattle.floor_laws.proofs.Moving.{leaves_then, leaves_axes, grant_grows, enter_bit_grows, enter_bit_leaves, drop_bit_grows, drop_bit_leaves, grant_bit_grows, grant_bit_leaves, withdraw_leaves, withdraw_one_grows}

pub enters_leaves : (c : ℕ) (k : Stamp) (a : Axis) (ds : List ℕ) → Leaves (enters c k a ds)
enters_leaves c k a = leaves_each (enter_bit a c k) (enter_bit_leaves a c k)

pub enters_grows : (c : ℕ) (k : Stamp) (a : Axis) (ds : List ℕ) → Grows (enters c k a ds)
enters_grows c k a = grows_each (enter_bit a c k) (λ _. true) (enter_bit_grows a c k)

pub drops_leaves : (c : ℕ) (a : Axis) (ds : List ℕ) → Leaves (drops c a ds)
drops_leaves c a = leaves_each (drop_bit a c) (drop_bit_leaves a c)

pub drops_grows : (c : ℕ) (a : Axis) (ds : List ℕ) → Grows (drops c a ds)
drops_grows c a = grows_each (drop_bit a c) (λ _. true) (drop_bit_grows a c)

pub renews_leaves : (c : ℕ) (k : Stamp) (a : Axis) (ds : List ℕ) → Leaves (renews c k a ds)
renews_leaves c k a ds = leaves_then (each (withdraw a c) ds) (each (regrant a c k) ds) (leaves_each (withdraw a c) (withdraw_leaves a c) ds) (leaves_each (regrant a c k) (grant_bit_leaves a c k) ds)

pub renews_grows : (c : ℕ) (k : Stamp) (a : Axis) (ds : List ℕ) → Grows (renews c k a ds)
renews_grows c k a ds = grows_then (each (withdraw a c) ds) (each (regrant a c k) ds) (grows_each (withdraw a c) (λ _. true) (withdraw_one_grows a c) ds) (grows_each (regrant a c k) (λ _. true) (grant_bit_grows a c k) ds)

module _ (F : Axis → List ℕ → Move) (lv : (a : Axis) (ds : List ℕ) → Leaves (F a ds)) (c : ℕ) (b : Box) (k : Stamp) (next : Option ℕ) (m m₁ : Hall)
    (e : m₁ ≡ read_leg c b k m) (f : next ≡ break_after m.book c k.time) where
  pub reading_is : then (on_axes (λ a. F a (others c m))) (grant_leg c k) (read_leg c b k m) ≡ reading F c next m₁
  reading_is = subst (λ (h : Hall). then (on_axes (λ a. F a (others c m))) (grant_leg c k) (read_leg c b k m) ≡ reading F c next h) (sym e) go
    where
      go : then (on_axes (λ a. F a (others c m))) (grant_leg c k) (read_leg c b k m) ≡ reading F c next (read_leg c b k m)
      go =
          ap (λ (ds : List ℕ). then (on_axes (λ a. F a ds)) (grant_leg c k) (read_leg c b k m)) (sym (others_with c (Some _) m))
          ∙ ap (λ (o : Option ℕ). then (on_axes (λ a. F a (others c (read_leg c b k m)))) (grant (leg_slot c) (at_break o)) (read_leg c b k m)) (told ∙ sym f)
        where
          told : break_after (on_axes (λ a. F a (others c (read_leg c b k m))) (read_leg c b k m)).hall.book c k.time ≡ break_after m.book c k.time
          told = ap (λ (z : Book). break_after z c k.time) (leaves_axes (λ a. F a (others c (read_leg c b k m))) (λ a. lv a (others c (read_leg c b k m))) (read_leg c b k m)).1

-- two moves, the second a grant
module _ (A : Move) (s : ℕ) (o : Option Stamp) (n : ℕ) (m : Hall) (t : List ℕ) (x : Fits (then A (grant s o)) n m t) where
  pub then_first : Fits A n m t
  then_first = fits_first A (grant s o) n m t (grant_grows s o) x

  pub then_second : (m₁ : Hall) (t₁ : List ℕ) (r : ℕ) → Wrote A n m m₁ t t₁ r → Fits (grant s o) r m₁ t₁
  then_second m₁ t₁ r w = fits_second A (grant s o) n m m₁ t t₁ r x w

  pub then_both : (m₁ m₂ : Hall) (t₁ t₂ : List ℕ) (r r₂ : ℕ) → Wrote A n m m₁ t t₁ r → Wrote (grant s o) r m₁ m₂ t₁ t₂ r₂ → Wrote (then A (grant s o)) n m m₂ t t₂ r₂
  then_both m₁ m₂ t₁ t₂ r r₂ w v = wrote_then A (grant s o) n m m₁ m₂ t t₁ t₂ r r₂ (first_room A (grant s o) n m t x) w v
