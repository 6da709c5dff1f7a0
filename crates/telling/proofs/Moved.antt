-- What a hall is after a craft has entered or left, and after a certificate has fired.
use Rattle.std.proofs.Common.{◌≡◌, ℕ, ◌<◌, Bool, true, false, not, ◌&&◌, eqb, ◌⊎◌, List, is_some, Some, None, Option, sym, refl, ap, ◌∙◌, inl, inr, arith, ne_eqb}
use borrow.Author.Tests.{eqb-false}
use Rattle.std.proofs.lemmas.Bool.{and_parts, and_from, not-true, not_from_false}
use Rattle.rules.specs.Basics.{◌∈◌, put}
use Rattle.rules.specs.Stamps.{Stamp}
use Rattle.rules.specs.Paths.{Axis, leg}
use Rattle.rules.specs.Books.{Book, path, break_after}
use Rattle.rules.specs.Boxes.{Box}
use Rattle.rules.specs.Slots.{slot, leg_slot}
use Rattle.model.specs.Halls.{Craft, Hall, all_craft, in_hall, others}
use Rattle.model.specs.Moves.{then, each, on_axes, fired, take_away, craft_of, enter_bit, drop_bit, at_break, read_leg, enter, leave, axis_of, lower_of, higher_of, fire_bit, renew, fire_leg}
use Rattle.accounts.proofs.Puts.{put_here, put_other, same_or_not, those_in, in_those}
use Rattle.accounts.proofs.Frames.{craft_below, below_craft}
use Rattle.telling.proofs.Places.{slot_axis, slot_lower, slot_higher, slot_other, slot_apart, slot_leg}
use Rattle.telling.proofs.Effects.{Cell, cell, Written, Wrote, axes_keeps, axes_wrote, failing, fresh, Amid, Amidst, renewed, enter_axes, drop_axes, renew_each}

-- c's slots with the craft of a list hold these cells, and its leg slot this moment; the other slots hold what they held
pub record Moved (c : ℕ) (ds : List ℕ) (v : Axis → ℕ → Cell) (l : Option Stamp) (m h : Hall) : Type 0 where
  pub cells : (s : ℕ) → (s ≡ leg_slot c → ⊥) → Wrote ds (λ a d. slot a c d) v (cell m) (cell h) s
  pub leg : h.queue (leg_slot c) ≡ l

-- the other entered craft
pub record Other (c : ℕ) (m : Hall) (d : ℕ) : Type 0 where
  pub low : d < 64
  pub here : in_hall m d ≡ true
  pub apart : d ≡ c → ⊥

pub others_out : (c : ℕ) (m : Hall) (d : ℕ) → d ∈ others c m → Other c m d
others_out c m d e =
    let z = those_in (λ d. in_hall m d && not (eqb d c)) all_craft d e in
    let y = and_parts (in_hall m d) (not (eqb d c)) z.1 in
    record { low = craft_below d z.0; here = y.0; apart = eqb-false d c (not-true (eqb d c) y.1) }

pub others_in : (c : ℕ) (m : Hall) (d : ℕ) → Other c m d → d ∈ others c m
others_in c m d o = in_those (λ d. in_hall m d && not (eqb d c)) all_craft d (below_craft d o.low) (and_from (in_hall m d) (not (eqb d c)) o.here (not_from_false (eqb d c) (ne_eqb d c o.apart)))

-- ---- what it says of pairs and craft
module _ (c : ℕ) (ds : List ℕ) (v : Axis → ℕ → Cell) (l : Option Stamp) (m h : Hall) (hc : c < 64)
    (low : (d : ℕ) → d ∈ ds → d < 64) (apart : (d : ℕ) → d ∈ ds → c ≡ d → ⊥) (z : Moved c ds v l m h) where
  pub cell_pair : (a : Axis) (d : ℕ) → d ∈ ds → cell h (slot a c d) ≡ v a d
  cell_pair a d e = by (z.cells (slot a c d) (slot_leg a c d c hc (low d e) (apart d e)))
    where
      by : Wrote ds (λ a d. slot a c d) v (cell m) (cell h) (slot a c d) → cell h (slot a c d) ≡ v a d
      by (inr w) = absurd (w.0 a d e refl)
      by (inl w) =
          let o = slot_other a w.0 c d w.1 hc (low d e) (low w.1 w.2) (apart d e) (apart w.1 w.2) w.3 in
          w.4 ∙ (λ i. v (sym o.0 i) (sym o.1 i))

  pub cell_apart : (a : Axis) (e f : ℕ) → e < f → f < 64 → (c ≡ e → ⊥) → (c ≡ f → ⊥) → cell h (slot a e f) ≡ cell m (slot a e f)
  cell_apart a e f p hf ne nf = by (z.cells (slot a e f) (slot_leg a e f c (omega arith) hf (λ q. omega (arith, q))))
    where
      by : Wrote ds (λ a d. slot a c d) v (cell m) (cell h) (slot a e f) → cell h (slot a e f) ≡ cell m (slot a e f)
      by (inr w) = w.1
      by (inl w) = absurd (slot_apart a w.0 c w.1 e f hc (low w.1 w.2) p hf (apart w.1 w.2) ne nf w.3)

  pub leg_apart : (e : ℕ) → (e ≡ c → ⊥) → h.queue (leg_slot e) ≡ m.queue (leg_slot e)
  leg_apart e n = by (z.cells (leg_slot e) (λ q. n (omega (arith, q))))
    where
      by : Wrote ds (λ a d. slot a c d) v (cell m) (cell h) (leg_slot e) → h.queue (leg_slot e) ≡ m.queue (leg_slot e)
      by (inr w) = ap (λ (x : Cell). x.1) w.1
      by (inl w) = absurd (slot_leg w.0 c w.1 e hc (low w.1 w.2) (apart w.1 w.2) (sym w.3))

-- ---- entering
wrote_to : (ds : List ℕ) (place : Axis → ℕ → ℕ) (v : Axis → ℕ → Cell) (g h h' : ℕ → Cell) (s : ℕ) → h' s ≡ h s → Wrote ds place v g h s → Wrote ds place v g h' s
wrote_to ds place v g h h' s e (inl w) = inl (w.0, w.1, w.2, w.3, e ∙ w.4)
wrote_to ds place v g h h' s e (inr w) = inr (w.0, e ∙ w.1)

module _ (c : ℕ) (x : Box) (k : Stamp) (m : Hall) where
  abbrev pub leg_now : Craft
  leg_now = record { box = x; leg = leg (path m.book c) k.time }

  abbrev pub craft_then : ℕ → Option Craft
  craft_then = put m.craft c (Some leg_now)

  abbrev enter_mid : Hall
  enter_mid = (on_axes (λ a. each (enter_bit a c k) (others c m)) (read_leg c x k m)).hall

  mid_entered : Amid m.book craft_then enter_mid × ((s : ℕ) → Wrote (others c m) (λ a d. slot a c d) (λ a d. fresh craft_then k a c d) (cell m) (cell enter_mid) s)
  mid_entered = enter_axes m.book craft_then k c (others c m) (read_leg c x k m) (refl, refl)

  pub enter_amid : Amid m.book craft_then (enter c x k m).hall
  enter_amid = mid_entered.0

  pub enter_moved : Moved c (others c m) (λ a d. fresh craft_then k a c d) (at_break (break_after m.book c k.time)) m (enter c x k m).hall
  enter_moved = record {
    cells = λ s n. wrote_to (others c m) (λ a d. slot a c d) (λ a d. fresh craft_then k a c d) (cell m) (cell enter_mid) (cell (enter c x k m).hall) s
        (λ j. (enter_mid.bit s, put_other enter_mid.queue (leg_slot c) (at_break (break_after enter_mid.book c k.time)) s n j)) (mid_entered.1 s);
    leg = put_here enter_mid.queue (leg_slot c) (at_break (break_after enter_mid.book c k.time)) ∙ ap (λ (b : Book). at_break (break_after b c k.time)) mid_entered.0.0;
  }

-- ---- leaving
module _ (c : ℕ) (m : Hall) where
  abbrev leave_mid : Hall
  leave_mid = (on_axes (λ a. each (drop_bit a c) (others c m)) m).hall

  mid_left : Amid m.book m.craft leave_mid × ((s : ℕ) → Wrote (others c m) (λ a d. slot a c d) (λ a d. (false, None)) (cell m) (cell leave_mid) s)
  mid_left = drop_axes m.book m.craft (record { time = record { num = 0; den = 1 }; after = false }) c (others c m) m (refl, refl)

  pub leave_amid : Amid m.book (put m.craft c None) (leave c m).hall
  leave_amid = (mid_left.0.0, λ i. put (mid_left.0.1 i) c None)

  pub leave_moved : Moved c (others c m) (λ a d. (false, None)) None m (leave c m).hall
  leave_moved = record {
    cells = λ s n. wrote_to (others c m) (λ a d. slot a c d) (λ a d. (false, None)) (cell m) (cell leave_mid) (cell (leave c m).hall) s
        (λ j. (leave_mid.bit s, put_other leave_mid.queue (leg_slot c) None s n j)) (mid_left.1 s);
    leg = put_here leave_mid.queue (leg_slot c) None;
  }

-- ---- firing a leg certificate
module _ (c : ℕ) (k : Stamp) (m : Hall) (inside : in_hall m c ≡ true) where
  abbrev pub craft_anew : ℕ → Option Craft
  craft_anew = put m.craft c (Some (record { box = (craft_of c m).box; leg = leg (path m.book c) k.time }))

  abbrev fire_start : Hall
  fire_start = read_leg c (craft_of c m).box k (take_away fired (leg_slot c) m).hall

  abbrev fire_mid : Hall
  fire_mid = (on_axes (renew c (others c m) k) fire_start).hall

  pub still_in : (d : ℕ) → is_some (craft_anew d) ≡ in_hall m d
  still_in d = by (same_or_not d c)
    where
      by : (d ≡ c) ⊎ (d ≡ c → ⊥) → is_some (craft_anew d) ≡ in_hall m d
      by (inl e) = ap (λ (o : Option Craft). is_some o) (ap craft_anew e ∙ put_here m.craft c (Some (record { box = (craft_of c m).box; leg = leg (path m.book c) k.time }))) ∙ sym inside ∙ ap (in_hall m) (sym e)
      by (inr n) = ap (λ (o : Option Craft). is_some o) (put_other m.craft c (Some (record { box = (craft_of c m).box; leg = leg (path m.book c) k.time })) d n)

  renew_keeps : (a : Axis) (h : Hall) → Amidst m.book craft_anew k c m.bit h → Amidst m.book craft_anew k c m.bit (renew c (others c m) k a h).hall
  renew_keeps a h i = (renew_each m.book craft_anew k c m.bit a (others c m) h i).0

  renew_wrote : (a : Axis) (h : Hall) → Amidst m.book craft_anew k c m.bit h → (s : ℕ) → Written (others c m) (λ d. slot a c d) (renewed m.book craft_anew k c m.bit a) (cell h) (cell (renew c (others c m) k a h).hall) s
  renew_wrote a h i = (renew_each m.book craft_anew k c m.bit a (others c m) h i).1

  mid_amidst : Amidst m.book craft_anew k c m.bit fire_mid
  mid_amidst = axes_keeps (renew c (others c m) k) (Amidst m.book craft_anew k c m.bit) (others c m) (λ a d. slot a c d) (renewed m.book craft_anew k c m.bit) renew_keeps renew_wrote fire_start ((refl, refl), refl)

  mid_wrote : (s : ℕ) → Wrote (others c m) (λ a d. slot a c d) (renewed m.book craft_anew k c m.bit) (cell fire_start) (cell fire_mid) s
  mid_wrote = axes_wrote (renew c (others c m) k) (Amidst m.book craft_anew k c m.bit) (others c m) (λ a d. slot a c d) (renewed m.book craft_anew k c m.bit) renew_keeps renew_wrote fire_start ((refl, refl), refl)

  abbrev pub leg_fired : Hall
  leg_fired = (then (take_away fired (leg_slot c)) (fire_leg c k) m).hall

  pub leg_amidst : Amidst m.book craft_anew k c m.bit leg_fired
  leg_amidst = mid_amidst

  pub leg_moved : Moved c (others c m) (renewed m.book craft_anew k c m.bit) (at_break (break_after m.book c k.time)) m leg_fired
  leg_moved = record {
    cells = λ s n. both s n (mid_wrote s);
    leg = put_here fire_mid.queue (leg_slot c) (at_break (break_after fire_mid.book c k.time)) ∙ ap (λ (b : Book). at_break (break_after b c k.time)) mid_amidst.0.0;
  }
    where
      both : (s : ℕ) → (s ≡ leg_slot c → ⊥) → Wrote (others c m) (λ a d. slot a c d) (renewed m.book craft_anew k c m.bit) (cell fire_start) (cell fire_mid) s → Wrote (others c m) (λ a d. slot a c d) (renewed m.book craft_anew k c m.bit) (cell m) (cell leg_fired) s
      both s n (inl w) = inl (w.0, w.1, w.2, w.3, (λ j. (fire_mid.bit s, put_other fire_mid.queue (leg_slot c) (at_break (break_after fire_mid.book c k.time)) s n j)) ∙ w.4)
      both s n (inr w) = inr (w.0, (λ j. (fire_mid.bit s, put_other fire_mid.queue (leg_slot c) (at_break (break_after fire_mid.book c k.time)) s n j)) ∙ w.1 ∙ (λ j. (m.bit s, put_other m.queue (leg_slot c) None s n j)))

-- ---- firing a bit's certificate
module _ (a : Axis) (c d : ℕ) (k : Stamp) (m : Hall) (p : c < d) (q : d < 64) where
  abbrev pub bit_fired : Hall
  bit_fired = (then (take_away fired (slot a c d)) (fire_bit (slot a c d) k) m).hall

  abbrev pub flipped_cell : Cell
  flipped_cell = (not (m.bit (slot a c d)), failing m.craft k a c d (not (m.bit (slot a c d))))

  -- the slot that is named by what it decodes to is itself
  decoded : slot (axis_of (slot a c d)) (lower_of (slot a c d)) (higher_of (slot a c d)) ≡ slot a c d
  decoded = λ i. slot (slot_axis a c d p q i) (slot_lower a c d p q i) (slot_higher a c d p q i)

  abbrev turned : ℕ → Bool
  turned = put m.bit (slot a c d) (not (m.bit (slot a c d)))

  abbrev emptied : ℕ → Option Stamp
  emptied = put m.queue (slot a c d) None

  pub bit_fired_is : (s : ℕ) → cell bit_fired s ≡ (turned s, put emptied (slot a c d) (failing m.craft k a c d (turned (slot a c d))) s)
  bit_fired_is s = λ i. (turned s, put emptied (decoded i) (failing m.craft k (slot_axis a c d p q i) (slot_lower a c d p q i) (slot_higher a c d p q i) (turned (decoded i))) s)

  pub bit_fired_here : cell bit_fired (slot a c d) ≡ flipped_cell
  bit_fired_here = bit_fired_is (slot a c d)
      ∙ (λ i. (
        put_here m.bit (slot a c d) (not (m.bit (slot a c d))) i,
        (put_here emptied (slot a c d) (failing m.craft k a c d (turned (slot a c d))) ∙ ap (failing m.craft k a c d) (put_here m.bit (slot a c d) (not (m.bit (slot a c d))))) i,
      ))

  pub bit_fired_other : (s : ℕ) → (s ≡ slot a c d → ⊥) → cell bit_fired s ≡ cell m s
  bit_fired_other s n = bit_fired_is s
      ∙ (λ i. (
        put_other m.bit (slot a c d) (not (m.bit (slot a c d))) s n i,
        (put_other emptied (slot a c d) (failing m.craft k a c d (turned (slot a c d))) s n ∙ put_other m.queue (slot a c d) None s n) i,
      ))
