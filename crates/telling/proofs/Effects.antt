-- What entering, leaving and firing do to the bits, the queue and the craft, slot by slot.
use Rattle.std.proofs.Common.{◌≡◌, ℕ, min, max, Bool, false, ◌⊎◌, List, [], ◌∷◌, None, Option, refl, ap, ◌∙◌, inl, inr}
use mathlib.Core.List.Memᴰ
use Rattle.rules.specs.Basics.{◌∈◌, put, the}
use Rattle.rules.specs.Stamps.{Stamp}
use Rattle.rules.specs.Paths.{Axis, X, Y, Z}
use Rattle.rules.specs.Books.{Book}
use Rattle.rules.specs.Boxes.{Ends, ends, overlap, fails}
use Rattle.rules.specs.Slots.{slot}
use Rattle.model.specs.Halls.{Craft, Hall}
use Rattle.model.specs.Moves.{Out, then, each, on_axes, withdrawn, take_away, nobody, grant_bit, enter_bit, drop_bit}
use Rattle.accounts.proofs.Puts.{put_here, put_other, same_or_not}

-- a slot's bit and moment
abbrev pub Cell : Type 0
Cell = Bool × Option Stamp

abbrev pub cell : Hall → ℕ → Cell
cell h s = (h.bit s, h.queue s)

-- s is the place of some d of the list, and holds that one's value; or it is the place of none, and holds what it held
abbrev pub Written : {A : Type 0} → List ℕ → (ℕ → ℕ) → (ℕ → A) → (ℕ → A) → (ℕ → A) → ℕ → Type 0
Written ds place v g h s = ((d : ℕ) × (d ∈ ds) × (s ≡ place d) × (h s ≡ v d)) ⊎ (((d : ℕ) → d ∈ ds → s ≡ place d → ⊥) × (h s ≡ g s))

-- the same over three axes
abbrev pub Wrote : List ℕ → (Axis → ℕ → ℕ) → (Axis → ℕ → Cell) → (ℕ → Cell) → (ℕ → Cell) → ℕ → Type 0
Wrote ds place v g h s = ((a : Axis) × (d : ℕ) × (d ∈ ds) × (s ≡ place a d) × (h s ≡ v a d)) ⊎ (((a : Axis) (d : ℕ) → d ∈ ds → s ≡ place a d → ⊥) × (h s ≡ g s))

module _ {A : Type 0} (f : ℕ → Hall → Out) (get : Hall → ℕ → A) (I : Hall → Type 0) (place : ℕ → ℕ) (v : ℕ → A)
    (keeps : (d : ℕ) (h : Hall) → I h → I (f d h).hall)
    (on : (d : ℕ) (h : Hall) → I h → get (f d h).hall (place d) ≡ v d)
    (off : (d : ℕ) (h : Hall) → I h → (s : ℕ) → (s ≡ place d → ⊥) → get (f d h).hall s ≡ get h s) where
  pub each_keeps : (ds : List ℕ) (h : Hall) → I h → I (each f ds h).hall
  each_keeps [] h i = i
  each_keeps (d ∷ ds) h i = each_keeps ds (f d h).hall (keeps d h i)

  pub each_written : (ds : List ℕ) (h : Hall) → I h → (s : ℕ) → Written ds place v (get h) (get (each f ds h).hall) s
  each_written [] h i s = inr (λ d e. absurd (Memᴰ.not-nil e), refl)
  each_written (d ∷ ds) h i s = by (each_written ds (f d h).hall (keeps d h i) s) (same_or_not s (place d))
    where
      by : Written ds place v (get (f d h).hall) (get (each f ds (f d h).hall).hall) s → (s ≡ place d) ⊎ (s ≡ place d → ⊥) → Written (d ∷ ds) place v (get h) (get (each f ds (f d h).hall).hall) s
      by (inl w) o = inl (w.0, Memᴰ.tail w.1, w.2, w.3)
      by (inr w) (inl e) = inl (d, Memᴰ.head refl, e, w.1 ∙ ap (get (f d h).hall) e ∙ on d h i)
      by (inr w) (inr n) = inr (λ x p e. none x (Memᴰ.cases_cons p) e, w.1 ∙ off d h i s n)
        where
          none : (x : ℕ) → (x ≡ d) ⊎ (x ∈ ds) → s ≡ place x → ⊥
          none x (inl q) e = n (e ∙ ap place q)
          none x (inr q) e = w.0 x q e

-- three axes in turn
module _ (f : Axis → Hall → Out) (I : Hall → Type 0) (ds : List ℕ) (place : Axis → ℕ → ℕ) (v : Axis → ℕ → Cell)
    (keeps : (a : Axis) (h : Hall) → I h → I (f a h).hall)
    (wrote : (a : Axis) (h : Hall) → I h → (s : ℕ) → Written ds (place a) (v a) (cell h) (cell (f a h).hall) s) where
  pub axes_keeps : (h : Hall) → I h → I (on_axes f h).hall
  axes_keeps h i = keeps Z _ (keeps Y _ (keeps X h i))

  pub axes_wrote : (h : Hall) → I h → (s : ℕ) → Wrote ds place v (cell h) (cell (on_axes f h).hall) s
  axes_wrote h i s = by (wrote X h i s) (wrote Y (f X h).hall (keeps X h i) s) (wrote Z (f Y (f X h).hall).hall (keeps Y _ (keeps X h i)) s)
    where
      by : Written ds (place X) (v X) (cell h) (cell (f X h).hall) s → Written ds (place Y) (v Y) (cell (f X h).hall) (cell (f Y (f X h).hall).hall) s → Written ds (place Z) (v Z) (cell (f Y (f X h).hall).hall) (cell (f Z (f Y (f X h).hall).hall).hall) s →
          Wrote ds place v (cell h) (cell (f Z (f Y (f X h).hall).hall).hall) s
      by x y (inl z) = inl (Z, z.0, z.1, z.2, z.3)
      by x (inl y) (inr z) = inl (Y, y.0, y.1, y.2, z.1 ∙ y.3)
      by (inl x) (inr y) (inr z) = inl (X, x.0, x.1, x.2, z.1 ∙ y.1 ∙ x.3)
      by (inr x) (inr y) (inr z) = inr (none, z.1 ∙ y.1 ∙ x.1)
        where
          none : (a : Axis) (d : ℕ) → d ∈ ds → s ≡ place a d → ⊥
          none X = x.0
          none Y = y.0
          none Z = z.0

-- ---- entering
abbrev pub ends_in : (ℕ → Option Craft) → Axis → ℕ → Ends
ends_in cr a c = ends (the nobody (cr c)).box a ((the nobody (cr c)).leg a)

-- a certificate on these legs, of the bit b
abbrev pub failing : (ℕ → Option Craft) → Stamp → Axis → ℕ → ℕ → Bool → Option Stamp
failing cr k a c d b = fails b (ends_in cr a (min c d)) (ends_in cr a (max c d)) k

abbrev pub overlapping : (ℕ → Option Craft) → Stamp → Axis → ℕ → ℕ → Bool
overlapping cr k a c d = overlap (ends_in cr a (min c d)) (ends_in cr a (max c d)) k

-- a bit read now and its certificate
abbrev pub fresh : (ℕ → Option Craft) → Stamp → Axis → ℕ → ℕ → Cell
fresh cr k a c d = (overlapping cr k a c d, failing cr k a c d (overlapping cr k a c d))

-- the book and the craft are these
abbrev pub Amid : Book → (ℕ → Option Craft) → Hall → Type 0
Amid b cr h = (h.book ≡ b) × (h.craft ≡ cr)

module _ (b : Book) (cr : ℕ → Option Craft) (k : Stamp) (c : ℕ) where
  enter_bit_on : (a : Axis) (d : ℕ) (h : Hall) → Amid b cr h → cell (enter_bit a c k d h).hall (slot a c d) ≡ fresh cr k a c d
  enter_bit_on a d h i =
      (λ j. (
        put_here h.bit (slot a c d) (overlapping h.craft k a c d) j,
        (put_here h.queue (slot a c d) (failing h.craft k a c d (put h.bit (slot a c d) (overlapping h.craft k a c d) (slot a c d)))
            ∙ ap (failing h.craft k a c d) (put_here h.bit (slot a c d) (overlapping h.craft k a c d))) j,
      ))
      ∙ ap (λ (cr : ℕ → Option Craft). fresh cr k a c d) i.1

  enter_bit_off : (a : Axis) (d : ℕ) (h : Hall) (s : ℕ) → (s ≡ slot a c d → ⊥) → cell (enter_bit a c k d h).hall s ≡ cell h s
  enter_bit_off a d h s n = λ j. (
    put_other h.bit (slot a c d) (overlapping h.craft k a c d) s n j,
    put_other h.queue (slot a c d) (failing h.craft k a c d (put h.bit (slot a c d) (overlapping h.craft k a c d) (slot a c d))) s n j,
  )

  drop_bit_on : (a : Axis) (d : ℕ) (h : Hall) → cell (drop_bit a c d h).hall (slot a c d) ≡ (false, None)
  drop_bit_on a d h = λ j. (put_here h.bit (slot a c d) false j, put_here h.queue (slot a c d) None j)

  drop_bit_off : (a : Axis) (d : ℕ) (h : Hall) (s : ℕ) → (s ≡ slot a c d → ⊥) → cell (drop_bit a c d h).hall s ≡ cell h s
  drop_bit_off a d h s n = λ j. (put_other h.bit (slot a c d) false s n j, put_other h.queue (slot a c d) None s n j)

  pub enter_axes : (ds : List ℕ) (h : Hall) → Amid b cr h → let z = (on_axes (λ a. each (enter_bit a c k) ds) h).hall in
      Amid b cr z × ((s : ℕ) → Wrote ds (λ a d. slot a c d) (λ a d. fresh cr k a c d) (cell h) (cell z) s)
  enter_axes ds h i = (
    axes_keeps (λ a. each (enter_bit a c k) ds) (Amid b cr) ds (λ a d. slot a c d) (λ a d. fresh cr k a c d) keep wrote h i,
    axes_wrote (λ a. each (enter_bit a c k) ds) (Amid b cr) ds (λ a d. slot a c d) (λ a d. fresh cr k a c d) keep wrote h i,
  )
    where
      keep : (a : Axis) (h : Hall) → Amid b cr h → Amid b cr (each (enter_bit a c k) ds h).hall
      keep a h i = each_keeps (enter_bit a c k) cell (Amid b cr) (λ d. slot a c d) (λ d. fresh cr k a c d) (λ d h i. i) (enter_bit_on a) (λ d h i. enter_bit_off a d h) ds h i

      wrote : (a : Axis) (h : Hall) → Amid b cr h → (s : ℕ) → Written ds (λ d. slot a c d) (λ d. fresh cr k a c d) (cell h) (cell (each (enter_bit a c k) ds h).hall) s
      wrote a h i s = each_written (enter_bit a c k) cell (Amid b cr) (λ d. slot a c d) (λ d. fresh cr k a c d) (λ d h i. i) (enter_bit_on a) (λ d h i. enter_bit_off a d h) ds h i s

  pub drop_axes : (ds : List ℕ) (h : Hall) → Amid b cr h → let z = (on_axes (λ a. each (drop_bit a c) ds) h).hall in
      Amid b cr z × ((s : ℕ) → Wrote ds (λ a d. slot a c d) (λ a d. (false, None)) (cell h) (cell z) s)
  drop_axes ds h i = (
    axes_keeps (λ a. each (drop_bit a c) ds) (Amid b cr) ds (λ a d. slot a c d) (λ a d. (false, None)) keep wrote h i,
    axes_wrote (λ a. each (drop_bit a c) ds) (Amid b cr) ds (λ a d. slot a c d) (λ a d. (false, None)) keep wrote h i,
  )
    where
      keep : (a : Axis) (h : Hall) → Amid b cr h → Amid b cr (each (drop_bit a c) ds h).hall
      keep a h i = each_keeps (drop_bit a c) cell (Amid b cr) (λ d. slot a c d) (λ d. (false, None)) (λ d h i. i) (λ d h i. drop_bit_on a d h) (λ d h i. drop_bit_off a d h) ds h i

      wrote : (a : Axis) (h : Hall) → Amid b cr h → (s : ℕ) → Written ds (λ d. slot a c d) (λ d. (false, None)) (cell h) (cell (each (drop_bit a c) ds h).hall) s
      wrote a h i s = each_written (drop_bit a c) cell (Amid b cr) (λ d. slot a c d) (λ d. (false, None)) (λ d h i. i) (λ d h i. drop_bit_on a d h) (λ d h i. drop_bit_off a d h) ds h i s

  -- ---- renewing: bits stay
  module _ (bit : ℕ → Bool) where
    abbrev pub Amidst : Hall → Type 0
    Amidst h = Amid b cr h × (h.bit ≡ bit)

    abbrev pub renewed : Axis → ℕ → Cell
    renewed a d = (bit (slot a c d), failing cr k a c d (bit (slot a c d)))

    withdraw_on : (a : Axis) (d : ℕ) (h : Hall) → Amidst h → cell (take_away withdrawn (slot a c d) h).hall (slot a c d) ≡ (bit (slot a c d), None)
    withdraw_on a d h i = λ j. (i.1 j (slot a c d), put_here h.queue (slot a c d) None j)

    withdraw_off : (a : Axis) (d : ℕ) (h : Hall) (s : ℕ) → (s ≡ slot a c d → ⊥) → cell (take_away withdrawn (slot a c d) h).hall s ≡ cell h s
    withdraw_off a d h s n = λ j. (h.bit s, put_other h.queue (slot a c d) None s n j)

    regrant_on : (a : Axis) (d : ℕ) (h : Hall) → Amidst h → cell (grant_bit a c d k h).hall (slot a c d) ≡ renewed a d
    regrant_on a d h i =
        (λ j. (h.bit (slot a c d), put_here h.queue (slot a c d) (failing h.craft k a c d (h.bit (slot a c d))) j))
        ∙ (λ j. (i.1 j (slot a c d), failing (i.0.1 j) k a c d (i.1 j (slot a c d))))

    regrant_off : (a : Axis) (d : ℕ) (h : Hall) (s : ℕ) → (s ≡ slot a c d → ⊥) → cell (grant_bit a c d k h).hall s ≡ cell h s
    regrant_off a d h s n = λ j. (h.bit s, put_other h.queue (slot a c d) (failing h.craft k a c d (h.bit (slot a c d))) s n j)

    withdraw_each : (a : Axis) (ds : List ℕ) (h : Hall) → Amidst h → let z = (each (λ d. take_away withdrawn (slot a c d)) ds h).hall in
        Amidst z × ((s : ℕ) → Written ds (λ d. slot a c d) (λ d. (bit (slot a c d), None)) (cell h) (cell z) s)
    withdraw_each a ds h i = (
      each_keeps (λ d. take_away withdrawn (slot a c d)) cell Amidst (λ d. slot a c d) (λ d. (bit (slot a c d), None)) (λ d h i. i) (withdraw_on a) (λ d h i. withdraw_off a d h) ds h i,
      each_written (λ d. take_away withdrawn (slot a c d)) cell Amidst (λ d. slot a c d) (λ d. (bit (slot a c d), None)) (λ d h i. i) (withdraw_on a) (λ d h i. withdraw_off a d h) ds h i,
    )

    regrant_each : (a : Axis) (ds : List ℕ) (h : Hall) → Amidst h → let z = (each (λ d. grant_bit a c d k) ds h).hall in
        Amidst z × ((s : ℕ) → Written ds (λ d. slot a c d) (renewed a) (cell h) (cell z) s)
    regrant_each a ds h i = (
      each_keeps (λ d. grant_bit a c d k) cell Amidst (λ d. slot a c d) (renewed a) (λ d h i. i) (regrant_on a) (λ d h i. regrant_off a d h) ds h i,
      each_written (λ d. grant_bit a c d k) cell Amidst (λ d. slot a c d) (renewed a) (λ d h i. i) (regrant_on a) (λ d h i. regrant_off a d h) ds h i,
    )

    renew_both : (a : Axis) (ds : List ℕ) (h g z : Hall) (s : ℕ) → Written ds (λ d. slot a c d) (λ d. (bit (slot a c d), None)) (cell h) (cell g) s → Written ds (λ d. slot a c d) (renewed a) (cell g) (cell z) s → Written ds (λ d. slot a c d) (renewed a) (cell h) (cell z) s
    renew_both a ds h g z s p (inl q) = inl q
    renew_both a ds h g z s (inl p) (inr q) = absurd (q.0 p.0 p.1 p.2)
    renew_both a ds h g z s (inr p) (inr q) = inr (q.0, q.1 ∙ p.1)

    -- withdrawn and granted anew, over a list that stays
    pub renew_each : (a : Axis) (ds : List ℕ) (h : Hall) → Amidst h → let z = (then (each (λ d. take_away withdrawn (slot a c d)) ds) (each (λ d. grant_bit a c d k) ds) h).hall in
        Amidst z × ((s : ℕ) → Written ds (λ d. slot a c d) (renewed a) (cell h) (cell z) s)
    renew_each a ds h i =
        let g : Hall = (each (λ d. take_away withdrawn (slot a c d)) ds h).hall in
        let w = withdraw_each a ds h i in
        let y = regrant_each a ds g w.0 in
        (y.0, λ s. renew_both a ds h g (each (λ d. grant_bit a c d k) ds g).hall s (w.1 s) (y.1 s))
