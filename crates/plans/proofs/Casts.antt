-- Lines in 32 bits.
use Rattle.std.proofs.Common.{◌≡◌, ℕ, ◌+◌, ◌-◌, ◌*◌, ◌^◌, ◌<◌, ◌≤◌, true, List, [], ◌∷◌, ◌++◌, length, ℤ, pos, ◌+ℤ◌, ◌-ℤ◌, ◌*ℤ◌, neg_ℤ, nat_abs, sym, refl, ap, ◌∙◌, subst, ap₂, arith, length-append, w32, SFits, to_z, of_z}
use native.Mathlib.Decide.{dec_lt}
use borrow.Author.Differences.{ints}
use Rattle.std.specs.Int.{Width}
use Rattle.std.proofs.lemmas.Int.{to_z-of_z}
use Rattle.std.proofs.lemmas.List.{map_push}
use Rattle.std.proofs.lemmas.Bool.{and_parts, lt-ltb, le-ltb}
use Rattle.rules.specs.Paths.{Axis, xyz}
use Rattle.rules.specs.Plans.{until, legs_right}
use Rattle.rules.specs.Plans.{Leg as FlightLeg}
use Rattle.fleet.specs.declared.axes.Axis.{Axis as CodeAxis}
use Rattle.fleet.specs.declared.axes.Axis.TheVariants.{X, Y, Z}
use Rattle.fleet.specs.declared.axes.Xyz.{Xyz}
use Rattle.fleet.specs.Axes.{axis_of, part}
use Rattle.plans.specs.declared.plan.Leg.{Leg}
use Rattle.plans.specs.Of.{speed_of, leg_of, legs_of}
use Rattle.plans.specs.Lines.{plus, leg_line, legs_line}
use Rattle.plans.proofs.Sizes.{times_within, sum_within, neg_within, pair_≡}
use Rattle.plans.proofs.Flown.{LegRight, leg_says}
use Rattle.plans.proofs.Tables.{leg_right, until_last, rights_last}

-- to its bits and back
abbrev pub back : ℤ → ℤ
back z = to_z w32 (of_z w32 z)

pub small_fits : (z : ℤ) (m : ℕ) → nat_abs z ≤ m → m < 2 ^ 31 → SFits w32 z
small_fits z m h k = omega (arith, ints)

pub back_is : (z : ℤ) (m : ℕ) → nat_abs z ≤ m → m < 2 ^ 31 → back z ≡ z
back_is z m h k = to_z-of_z w32 z (small_fits z m h k)

-- a speed times a number of ticks
module _ (s f v : ℤ) (n : ℕ) (es : s ≡ v) (ef : f ≡ pos n) (hv : nat_abs v ≤ 1000) (hn : n ≤ 50000) where
  way_small : nat_abs (v *ℤ pos n) ≤ 50000000
  way_small = times_within v n 1000 50000 hv hn

  way_inner : back s *ℤ back f ≡ v *ℤ pos n
  way_inner = ap₂ ◌*ℤ◌ (ap back es ∙ back_is v 1000 hv (omega arith)) (ap back ef ∙ back_is (pos n) 50000 hn (omega arith))

  pub way_fits : SFits w32 (back s *ℤ back f)
  way_fits = subst (SFits w32) (sym way_inner) (small_fits (v *ℤ pos n) 50000000 way_small (omega arith))

  pub way_is : back (back s *ℤ back f) ≡ v *ℤ pos n
  way_is = ap back way_inner ∙ back_is (v *ℤ pos n) 50000000 way_small (omega arith)

  minus_inner : pos 0 -ℤ back (back s *ℤ back f) ≡ neg_ℤ (v *ℤ pos n)
  minus_inner = ap (λ (z : ℤ). pos 0 -ℤ z) way_is ∙ zero_minus (v *ℤ pos n)
    where
      zero_minus : (z : ℤ) → pos 0 -ℤ z ≡ neg_ℤ z
      zero_minus z = omega (arith, ints)

  minus_small : nat_abs (neg_ℤ (v *ℤ pos n)) ≤ 50000000
  minus_small = neg_within (v *ℤ pos n) 50000000 way_small

  pub minus_fits : SFits w32 (pos 0 -ℤ back (back s *ℤ back f))
  minus_fits = subst (SFits w32) (sym minus_inner) (small_fits (neg_ℤ (v *ℤ pos n)) 50000000 minus_small (omega arith))

  pub minus_is : back (pos 0 -ℤ back (back s *ℤ back f)) ≡ neg_ℤ (v *ℤ pos n)
  minus_is = ap back minus_inner ∙ back_is (neg_ℤ (v *ℤ pos n)) 50000000 minus_small (omega arith)

pub line_during : (v : ℤ) (f u i : ℕ) → f ≤ i → i < u → leg_line v f u i ≡ (neg_ℤ (v *ℤ pos f), v)
line_during v f u i h k = rw (le-ltb i f h, lt-ltb i u k) refl

pub line_after : (v : ℤ) (f u i : ℕ) → f ≤ i → u ≤ i → leg_line v f u i ≡ (v *ℤ pos (u - f), pos 0)
line_after v f u i h k = rw (le-ltb i f h, le-ltb i u k) refl

-- the size of what a leg adds
pub record Part (l : ℤ × ℤ) : Type 0 where
  pub base : nat_abs l.0 ≤ 50000000
  pub slope : nat_abs l.1 ≤ 1000

pub part_small : (v : ℤ) (f u i : ℕ) → nat_abs v ≤ 1000 → f < u → u ≤ 50000 → Part (leg_line v f u i)
part_small v f u i hv o l = go (dec_lt i f) (dec_lt i u)
  where
    go : Dec (i < f) → Dec (i < u) → Part (leg_line v f u i)
    go (yes h) k = rw (lt-ltb i f h) (record { base = omega arith; slope = omega arith })
    go (no h) (yes k) = rw (le-ltb i f (omega arith), lt-ltb i u k) (record { base = neg_within (v *ℤ pos f) 50000000 (times_within v f 1000 50000 hv (omega arith)); slope = hv })
    go (no h) (no k) = rw (le-ltb i f (omega arith), le-ltb i u (omega arith)) (record { base = times_within v (u - f) 1000 50000 hv (omega arith); slope = omega arith })

plus_assoc : (l m n : ℤ × ℤ) → plus (plus l m) n ≡ plus l (plus m n)
plus_assoc l m n = pair_≡ (three l.0 m.0 n.0) (three l.1 m.1 n.1)
  where
    three : (a b c : ℤ) → (a +ℤ b) +ℤ c ≡ a +ℤ (b +ℤ c)
    three a b c = omega (arith, ints)

pub plus_zero : (l : ℤ × ℤ) → plus l (pos 0, pos 0) ≡ l
plus_zero l = pair_≡ (zeros l.0) (zeros l.1)
  where
    zeros : (a : ℤ) → a +ℤ pos 0 ≡ a
    zeros a = omega (arith, ints)

zero_plus : (l : ℤ × ℤ) → plus (pos 0, pos 0) l ≡ l
zero_plus l = pair_≡ (zeros l.0) (zeros l.1)
  where
    zeros : (a : ℤ) → pos 0 +ℤ a ≡ a
    zeros a = omega (arith, ints)

-- what legs add is what those before the last add, up to where it starts, and what it adds
line_last : (ls : List FlightLeg) (l : FlightLeg) (end : ℕ) (a : Axis) (i : ℕ) → legs_line (ls ++ l ∷ []) end a i ≡ plus (legs_line ls l.from a i) (leg_line (l.speed a) l.from end i)
line_last [] l end a i = plus_zero (leg_line (l.speed a) l.from end i) ∙ sym (zero_plus (leg_line (l.speed a) l.from end i))
line_last (k ∷ ls) l end a i =
    ap₂ (λ (u : ℕ) (m : ℤ × ℤ). plus (leg_line (k.speed a) k.from u i) m) (until_last ls l end) (line_last ls l end a i)
    ∙ sym (plus_assoc (leg_line (k.speed a) k.from (until ls l.from) i) (legs_line ls l.from a i) (leg_line (l.speed a) l.from end i))

-- the last of right legs, and those before it
module _ (ls rest : List Leg) (l : Leg) (end : ℕ) (e : ls ≡ rest ++ l ∷ []) where
  pub last_says : legs_right (legs_of ls) end ≡ true → (legs_right (legs_of rest) l.start ≡ true) × LegRight (leg_of l) end
  last_says r = let q = and_parts (legs_right (legs_of rest) l.start) (leg_right (leg_of l) end) (sym (rights_last ls rest l end e) ∙ r) in (q.0, leg_says (leg_of l) end q.1)

  pub sum_step : (a : Axis) (i : ℕ) (line : ℤ × ℤ) →
      plus (legs_line (legs_of rest) l.start a i) (plus (leg_line (speed_of l.speed a) l.start end i) line) ≡ plus (legs_line (legs_of ls) end a i) line
  sum_step a i line =
      sym (plus_assoc (legs_line (legs_of rest) l.start a i) (leg_line (speed_of l.speed a) l.start end i) line)
      ∙ ap (λ (m : ℤ × ℤ). plus m line)
      (sym (ap (λ (xs : List Leg). legs_line (legs_of xs) end a i) e ∙ ap (λ (xs : List FlightLeg). legs_line xs end a i) (map_push leg_of rest l) ∙ line_last (legs_of rest) (leg_of l) end a i))

  module _ (a : Axis) (i : ℕ) (m line : ℤ × ℤ) (em : m ≡ leg_line (speed_of l.speed a) l.start end i) (r : legs_right (legs_of ls) end ≡ true) (h : end ≤ 50000) where
    added : Part m
    added = let q = (last_says r).1 in subst Part (sym em) (part_small (speed_of l.speed a) l.start end i (q.speeds a) q.order h)

    length_is : length ls ≡ length rest + 1
    length_is = ap length e ∙ length-append rest (l ∷ [])

    -- there is room for what the last adds, and for what those before it will
    pub base_room : nat_abs line.0 + 50000000 * length ls ≤ 400000000 → nat_abs (m.0 +ℤ line.0) + 50000000 * length rest ≤ 400000000
    base_room b = let p = added.base in let n = length_is in let z = sum_within m.0 line.0 50000000 (nat_abs line.0) p (omega arith) in omega arith

    pub slope_room : nat_abs line.1 + 1000 * length ls ≤ 8000 → nat_abs (m.1 +ℤ line.1) + 1000 * length rest ≤ 8000
    slope_room b = let p = added.slope in let n = length_is in let z = sum_within m.1 line.1 1000 (nat_abs line.1) p (omega arith) in omega arith

-- what lies on an axis, to its bits and back
pub part_is : (w : Width) (p : Xyz ℤ) (a : CodeAxis) (z : ℤ) → SFits w z → z ≡ part p a → to_z w (of_z w z) ≡ xyz p.x p.y p.z (axis_of a)
part_is w p a z f e = to_z-of_z w z f ∙ e ∙ by a
  where
    by : (a : CodeAxis) → part p a ≡ xyz p.x p.y p.z (axis_of a)
    by X = refl
    by Y = refl
    by Z = refl
