-- The meetings and the partings of two boxes on any two paths.
use Rattle.std.proofs.Common.{◌≡◌, ℕ, suc, ◌+◌, ◌-◌, ◌*◌, ◌<◌, ◌≤◌, Bool, true, false, ◌⊎◌, ◌-ℤ◌, sym, ◌∙◌, inl, inr, ⊎_elim, mul-le-mul_right, lt_of_mul-lt-mul_right, mul-le-mul_left, div-mul-le_self, le_of_mul-le-mul_right, arith}
use native.Mathlib.Decide.{dec_le}
use native.Mathlib.Nat.{lt-div-mul-add}
use borrow.Author.Differences.{up, down}
use Rattle.rules.specs.Fractions.{Fraction, Proper, Before, NotAfter, Throughout, whole}
use Rattle.rules.specs.Stamps.{Stamp, Earlier, NotEarlier, at, just_after}
use Rattle.rules.specs.Paths.{Axis, Path, X, Y, Z, speed_at, line_at}
use Rattle.rules.specs.Boxes.{Box, ends, overlap, Touch, Meets, Parts}
use Rattle.rules.proofs.Order.{before_not_after, not_after_before}
use Rattle.rules.proofs.Stamped.{false_true}
use Rattle.geometry_laws.specs.Turns.{near, Near, lead, near_on, MeetsOn, AllTurnsTold}
use Rattle.geometry_laws.proofs.Behind.{not_so}
use Rattle.geometry_laws.proofs.Moments.{at_after, not_yet}
use Rattle.geometry_laws.proofs.Soon.{Slopes, soon, soon_proper, soon_later, amid, amid_after, amid_before, overlap_after}
use Rattle.geometry_laws.proofs.Lately.{lately, lately_proper, lately_before, within, settled_before, apart_before}
use Rattle.geometry_laws.proofs.Flips.{between, after_zero}
use Rattle.geometry_laws.proofs.Paths.{one_tick, start_ok, end_ok}
use Rattle.geometry_laws.proofs.Near.{one_of, near_dec, touches_told, near_late, near_before, near_until}

-- how steep the two paths are against each other from tick i to the next: no slope on any axis is above it
abbrev steep_on : Path → Path → Axis → ℕ → ℕ
steep_on p q a i = (up (speed_at p a i -ℤ speed_at q a i) + down (speed_at p a i -ℤ speed_at q a i)) + (up (speed_at q a i -ℤ speed_at p a i) + down (speed_at q a i -ℤ speed_at p a i))

abbrev pub steep : Path → Path → ℕ → ℕ
steep p q i = steep_on p q X i + (steep_on p q Y i + steep_on p q Z i)

pub steep_slopes : (p : Path) (b : Box) (q : Path) (d : Box) (i : ℕ) (a : Axis) → Slopes (steep p q i) (ends b a (line_at p a i)) (ends d a (line_at q a i))
steep_slopes p b q d i a = go a
  where
    go : (a : Axis) → Slopes (steep p q i) (ends b a (line_at p a i)) (ends d a (line_at q a i))
    go X = ((omega arith, omega arith), (omega arith, omega arith))
    go Y = ((omega arith, omega arith), (omega arith, omega arith))
    go Z = ((omega arith, omega arith), (omega arith, omega arith))

-- what touches overlaps on each axis
pub touch_near : (p : Path) (b : Box) (q : Path) (d : Box) (t : Fraction) → Touch p b q d t → (a : Axis) → Near p b q d a (at t)
touch_near p b q d t h a = (touches_told p b q d t).0 h a

pub near_touch : (p : Path) (b : Box) (q : Path) (d : Box) (t : Fraction) → ((a : Axis) → Near p b q d a (at t)) → Touch p b q d t
near_touch p b q d t h = (touches_told p b q d t).1 h

module _ (p : Path) (b : Box) (q : Path) (d : Box) (t : Fraction) (pt : Proper t) where
  -- ---- just after t
  abbrev pub shortly : Fraction
  shortly = soon (steep p q (whole t)) t

  -- a time soon after t is in the same tick
  soon_in : (r : Fraction) → Proper r → Before t r → Before r shortly → (whole t * r.den ≤ r.num) × (r.num < suc (whole t) * r.den)
  soon_in r pr h k = (low (whole t) (start_ok t), high (steep p q (whole t)) (suc (whole t)) (end_ok t pt) k)
    where
      low : (i : ℕ) → i * t.den ≤ t.num → i * r.den ≤ r.num
      low i g = le_by (omega (arith, mul-le-mul_right r.den g, h))
        where
          le_by : (i * r.den) * t.den ≤ r.num * t.den → i * r.den ≤ r.num
          le_by h = le_of_mul-le-mul_right h pt

      high : (w j : ℕ) → t.num < j * t.den → Before r (soon w t) → r.num < j * r.den
      high w j g k =
          lt_of_mul-lt-mul_right (t.den * (w + 1))
          (omega (arith, k, mul-le-mul_right ((w + 1) * r.den) g, mul-le-mul_left r.den (le_one w)))
        where
          le_one : (w : ℕ) → 1 ≤ w + 1
          le_one w = omega arith

  -- there the overlap is what it is at side 1
  pub near_after : (a : Axis) (r : Fraction) → Proper r → Before t r → Before r shortly → near p b q d a (at r) ≡ near p b q d a (just_after t)
  near_after a r pr h k =
      let i = soon_in r pr h k in
      near_before p b q d a (whole t) (suc (whole t)) (one_tick p a (whole t)) (one_tick q a (whole t)) (at r) pr i.0 i.1
      ∙ overlap_after (steep p q (whole t)) (ends b a (line_at p a (whole t))) (ends d a (line_at q a (whole t))) t pt (steep_slopes p b q d (whole t) a) r pr h k

  -- THE PARTINGS: a pair parts at t exactly if it touches at t and some axis is apart at side 1
  pub parting_told : Touch p b q d t → (a : Axis) → near p b q d a (just_after t) ≡ false → Parts (Touch p b q d) t
  parting_told c a n = (
    c,
    (
      shortly,
      soon_proper (steep p q (whole t)) t pt,
      soon_later (steep p q (whole t)) t pt,
      λ r pr h k f. false_true (sym n ∙ sym (near_after a r pr h k) ∙ touch_near p b q d r f a),
    ),
  )

  pub parting_only : Parts (Touch p b q d) t → (a : Axis) × (near p b q d a (just_after t) ≡ false)
  parting_only c = go (one_of (λ a. Near p b q d a (just_after t)) (λ a. near_dec p b q d a (just_after t)))
    where
      clash : ((a : Axis) → Near p b q d a (just_after t)) → (r : Fraction) → Proper r → Before t r → Before r c.1.0 → Before r shortly → ⊥
      clash all r pr h l k = c.1.3 r pr h l (near_touch p b q d r (λ a. near_after a r pr h k ∙ all a))

      pick : ((a : Axis) → Near p b q d a (just_after t)) → Dec (NotAfter c.1.0 shortly) → ⊥
      pick all (yes y) =
          let u = c.1.0 in
          let r = amid t u in
          clash all r (omega (arith, pt)) (amid_after t u c.1.2) (amid_before t u c.1.2) (before_not_after r u shortly c.1.1 (soon_proper (steep p q (whole t)) t pt) (amid_before t u c.1.2) y)
      pick all (no y) =
          let l = soon_later (steep p q (whole t)) t pt in
          let r = amid t shortly in
          clash all r (omega (arith, pt)) (amid_after t shortly l)
          (before_not_after r shortly c.1.0 (soon_proper (steep p q (whole t)) t pt) c.1.1 (amid_before t shortly l) (omega arith)) (amid_before t shortly l)

      go : ((a : Axis) → Near p b q d a (just_after t)) ⊎ ((a : Axis) × (¬ (Near p b q d a (just_after t)))) → (a : Axis) × (near p b q d a (just_after t) ≡ false)
      go (inr y) = (y.0, not_so (near p b q d y.0 (just_after t)) y.1)
      go (inl all) = absurd (pick all (dec_le (c.1.0.num * shortly.den) (shortly.num * c.1.0.den)))

  -- ---- just before t
  -- an axis that is apart from some moment g up to t, and a touch at t, make a meeting
  pub meeting_told : Touch p b q d t → (a : Axis) → (g : Stamp) → Proper g.time → Earlier g (at t) →
      ((k : Stamp) → Proper k.time → NotEarlier k g → Earlier k (at t) → near p b q d a k ≡ false) → Meets (Touch p b q d) t
  meeting_told c a g pg e n = (
    c,
    (
      g.time,
      pg,
      at_after g t e,
      λ r pr h k f. false_true (sym (n (at r) pr (not_yet g r h) (inl k)) ∙ touch_near p b q d r f a),
    ),
  )

  module _ (o : 0 < t.num) where
    abbrev pub recently : Fraction
    recently = lately (steep p q (lead t)) t

    pub low_ok : lead t * t.den < t.num
    low_ok = omega (arith, div-mul-le_self (t.num - 1) t.den, o)

    pub high_ok : t.num ≤ suc (lead t) * t.den
    high_ok = omega (arith, lt-div-mul-add {a = t.num - 1} pt, o)

    pub recently_before : Before recently t
    recently_before = lately_before (steep p q (lead t)) t pt o

    pub recently_proper : Proper recently
    recently_proper = lately_proper (steep p q (lead t)) t pt

    pub lately_in : (r : Fraction) → Proper r → Before recently r → Before r t → (lead t * r.den ≤ r.num) × (r.num < suc (lead t) * r.den)
    lately_in r pr k h = (low (steep p q (lead t)) (lead t) low_ok (within (steep p q (lead t)) t r o k), high (suc (lead t)) high_ok)
      where
        low : (w i : ℕ) → i * t.den < t.num → t.num * (w + 1) * r.den < r.num * (t.den * (w + 1)) + r.den → i * r.den ≤ r.num
        low w i h k = fin (omega (arith, k, mul-le-mul_right ((w + 1) * r.den) h, mul-le-mul_left r.den (one w)))
          where
            one : (w : ℕ) → 1 ≤ w + 1
            one w = omega arith

            fin : (i * r.den) * (t.den * (w + 1)) ≤ r.num * (t.den * (w + 1)) → i * r.den ≤ r.num
            fin h = le_of_mul-le-mul_right h (lately_proper w t pt)

        high : (j : ℕ) → t.num ≤ j * t.den → r.num < j * r.den
        high j g = lt_of_mul-lt-mul_right t.den (omega (arith, h, mul-le-mul_right r.den g))

    -- there the overlap is that of the legs that lead to t, at either side
    pub near_lead : (a : Axis) (k : Stamp) → Proper k.time → Before recently k.time → Before k.time t → near p b q d a k ≡ overlap (ends b a (line_at p a (lead t))) (ends d a (line_at q a (lead t))) k
    near_lead a k pk h l =
        let i = lately_in k.time pk h l in
        near_before p b q d a (lead t) (suc (lead t)) (one_tick p a (lead t)) (one_tick q a (lead t)) k pk i.0 i.1

    -- and at t itself, at side 0
    pub near_lead_at : (a : Axis) → near p b q d a (at t) ≡ near_on p b q d t a t
    near_lead_at a =
        near_until p b q d a (lead t) (suc (lead t)) (one_tick p a (lead t)) (one_tick q a (lead t)) (omega arith) t pt (omega (arith, low_ok)) high_ok

    -- just before t an axis overlaps throughout, or is apart throughout
    pub settled_lead : (a : Axis) → (Throughout (λ r. Near p b q d a (at r)) recently t) ⊎ (Throughout (λ r. near p b q d a (at r) ≡ false) recently t)
    settled_lead a =
        ⊎_elim (λ f. inl (λ r pr k h. near_lead a (at r) pr k h ∙ f r pr k h)) (λ f. inr (λ r pr k h. near_lead a (at r) pr k h ∙ f r pr k h))
        (settled_before (steep p q (lead t)) (ends b a (line_at p a (lead t))) (ends d a (line_at q a (lead t))) t pt o (steep_slopes p b q d (lead t) a))

    -- what is apart at t was apart just before it
    pub apart_lead : (a : Axis) → near p b q d a (at t) ≡ false → Throughout (λ r. near p b q d a (at r) ≡ false) recently t
    apart_lead a e r pr k h =
        near_lead a (at r) pr k h
        ∙ apart_before (steep p q (lead t)) (ends b a (line_at p a (lead t))) (ends d a (line_at q a (lead t))) t pt o (steep_slopes p b q d (lead t) a) (sym (near_lead_at a) ∙ e) r pr k h

    -- THE MEETINGS: where a pair meets, some axis is apart all the while just before
    pub meeting_only : Meets (Touch p b q d) t → (a : Axis) × Throughout (λ r. near p b q d a (at r) ≡ false) recently t
    meeting_only m = pick (settled_lead X) (settled_lead Y) (settled_lead Z)
      where
        C : Axis → Type 0
        C a = Throughout (λ r. Near p b q d a (at r)) recently t

        A : Axis → Type 0
        A a = Throughout (λ r. near p b q d a (at r) ≡ false) recently t

        all : C X → C Y → C Z → (a : Axis) → C a
        all x y z X = x
        all x y z Y = y
        all x y z Z = z

        clash : ((a : Axis) → C a) → ⊥
        clash f =
            let z = between m.1.0 recently t m.1.1 recently_proper pt m.1.2 recently_before in
            m.1.3 z.0 z.1 z.2 z.4 (near_touch p b q d z.0 (λ a. f a z.0 z.1 z.3 z.4))

        pick : (C X) ⊎ (A X) → (C Y) ⊎ (A Y) → (C Z) ⊎ (A Z) → (a : Axis) × A a
        pick (inr x) y z = (X, x)
        pick (inl x) (inr y) z = (Y, y)
        pick (inl x) (inl y) (inr z) = (Z, z)
        pick (inl x) (inl y) (inl z) = absurd (clash (all x y z))

    -- and at side 1 as at side 0
    pub meeting_only_moments : Meets (Touch p b q d) t → (a : Axis) × ((k : Stamp) → Proper k.time → Before recently k.time → Before k.time t → near p b q d a k ≡ false)
    meeting_only_moments m =
        let z = meeting_only m in
        (z.0, λ k pk h l. not_so (near p b q d z.0 k) (λ e. false_true (sym (z.1 k.time pk h l) ∙ at_side z.0 k.time k.after e)))
      where
        at_side : (a : Axis) (r : Fraction) (s : Bool) → Near p b q d a (record { time = r; after = s }) → Near p b q d a (at r)
        at_side a r false e = e
        at_side a r true e = near_late p b q d a r e

-- the later of two times before u
later : (s g u : Fraction) → Proper s → Proper g → Before s u → Before g u → (r : Fraction) × Proper r × NotAfter s r × NotAfter g r × Before r u
later s g u ps pg h k = go (dec_le (s.num * g.den) (g.num * s.den))
  where
    go : Dec (NotAfter s g) → (r : Fraction) × Proper r × NotAfter s r × NotAfter g r × Before r u
    go (yes x) = (g, pg, x, omega arith, k)
    go (no x) = (s, ps, omega arith, omega arith, h)

pub all_turns_told : AllTurnsTold
all_turns_told p b q d t pt = record {
  parts_on = λ m. let z = parting_only p b q d t pt m in record { touch = m.0; axis = z.0; apart = z.1 };
  on_parts = λ m. parting_told p b q d t pt m.touch m.axis m.apart;
  meets_on = meets_on;
  on_meets = on_meets;
}
  where
    meets_on : Meets (Touch p b q d) t → MeetsOn p b q d t
    meets_on m =
        let o = after_zero m.1.0 t m.1.2 in
        let z = meeting_only p b q d t pt o m in
        record {
          touch = m.0;
          axis = z.0;
          start = recently p b q d t pt o;
          proper = recently_proper p b q d t pt o;
          before = recently_before p b q d t pt o;
          apart = λ r pr h k. sym (near_lead p b q d t pt o z.0 (at r) pr h k) ∙ z.1 r pr h k;
        }

    on_meets : MeetsOn p b q d t → Meets (Touch p b q d) t
    on_meets m =
        let o = after_zero m.start t m.before in
        let z = later m.start (recently p b q d t pt o) t m.proper (recently_proper p b q d t pt o) m.before (recently_before p b q d t pt o) in (
          m.touch,
          (
            z.0,
            z.1,
            z.4,
            λ r pr h k f.
                false_true (sym (m.apart r pr (not_after_before m.start z.0 r m.proper z.1 z.2 h) k)
                ∙ sym (near_lead p b q d t pt o m.axis (at r) pr (not_after_before (recently p b q d t pt o) z.0 r (recently_proper p b q d t pt o) z.1 z.3 h) k)
                ∙ touch_near p b q d r f m.axis),
          ),
        )
