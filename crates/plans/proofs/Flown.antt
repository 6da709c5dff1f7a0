-- The path of a plan that keeps its rules.
use Rattle.std.proofs.Common.{◌≡◌, ℕ, suc, ◌+◌, ◌-◌, ◌*◌, ◌<◌, ◌≤◌, min, Bool, true, cond, ◌&&◌, ltb, leb, List, [], ◌∷◌, ◌++◌, map, ℤ, pos, ◌+ℤ◌, ◌-ℤ◌, ◌*ℤ◌, neg_ℤ, nat_abs, Some, None, Option, sym, refl, ap, ◌∙◌, subst, ap₂, ⊎_elim, arith}
use mathlib.Core.List.Memᴰ
use mathlib.Core.List.{Memᴰ}
use native.Mathlib.Decide.{dec_lt}
use borrow.Author.Differences.{ints, up, down}
use Rattle.std.proofs.lemmas.Bool.{and_parts, ltb-true, leb-true, lt-ltb, le-ltb}
use Rattle.rules.specs.Basics.{◌∈◌}
use Rattle.rules.specs.Fractions.{Fraction, Proper, tick, whole, is_before}
use Rattle.rules.specs.Paths.{Axis, X, Y, Z, Line, Kept, speed_at, line_at, first_after, min_with, on_every_axis}
use Rattle.rules.specs.Plans.{Leg, Plan, until, gone, path_of, within, legs_right, plan_right}
use Rattle.rules.proofs.Ring.{distr}
use Rattle.plans.specs.Lines.{line_of, plus, leg_line, legs_line, first_past}
use Rattle.plans.specs.Laws.{PlansKept, StandingKept}
use Rattle.plans.proofs.Sizes.{times_within, sum_within, diff_within, pair_≡}
use Rattle.plans.proofs.Straight.{after_whole, whole_after}

-- what the test of one leg says
pub record LegRight (l : Leg) (u : ℕ) : Type 0 where
  pub order : l.from < u
  pub speeds : (a : Axis) → nat_abs (l.speed a) ≤ 1000

every : (p : Axis → Bool) → on_every_axis p ≡ true → (a : Axis) → p a ≡ true
every p e X = grind arith
every p e Y = grind arith
every p e Z = grind arith

pub leg_says : (l : Leg) (u : ℕ) → (ltb l.from u && on_every_axis (λ a. within 1000 (l.speed a))) ≡ true → LegRight l u
leg_says l u e =
    let q = and_parts (ltb l.from u) (on_every_axis (λ a. within 1000 (l.speed a))) e in
    record { order = ltb-true _ _ q.0; speeds = λ a. leb-true (nat_abs (l.speed a)) 1000 (every (λ a. within 1000 (l.speed a)) q.1 a) }

pub first_right : (l : Leg) (ls : List Leg) (end : ℕ) → legs_right (l ∷ ls) end ≡ true → LegRight l (until ls end)
first_right l ls end e =
    let q = and_parts (ltb l.from (until ls end)) _ e in
    let s = and_parts (on_every_axis (λ a. within 1000 (l.speed a))) (legs_right ls end) q.1 in
    record { order = ltb-true _ _ q.0; speeds = λ a. leb-true (nat_abs (l.speed a)) 1000 (every (λ a. within 1000 (l.speed a)) s.0 a) }

pub rest_right : (l : Leg) (ls : List Leg) (end : ℕ) → legs_right (l ∷ ls) end ≡ true → legs_right ls end ≡ true
rest_right l ls end e = (and_parts (on_every_axis (λ a. within 1000 (l.speed a))) (legs_right ls end) (and_parts (ltb l.from (until ls end)) _ e).1).1

pub until_end : (ls : List Leg) (end : ℕ) → legs_right ls end ≡ true → until ls end ≤ end
until_end [] end e = omega arith
until_end (l ∷ ls) end e = let o = (first_right l ls end e).order in let r = until_end ls end (rest_right l ls end e) in omega arith

abbrev starts : List Leg → ℕ → List ℕ
starts ls end = map (λ (l : Leg). l.from) ls ++ (end ∷ [])

-- THE SLOPE CHANGES ONLY AT BREAKS

no_break_until : (ls : List Leg) (end i : ℕ) → ¬ (i ∈ starts ls end) → ¬ (i ≡ until ls end)
no_break_until [] end i n e = n (Memᴰ.head e)
no_break_until (l ∷ ls) end i n e = n (Memᴰ.head e)

legs_step : (v x y z : ℤ) (a b c : ℕ) → b + b ≡ a + c → z -ℤ y ≡ y -ℤ x → ((v *ℤ pos c) +ℤ z) -ℤ ((v *ℤ pos b) +ℤ y) ≡ ((v *ℤ pos b) +ℤ y) -ℤ ((v *ℤ pos a) +ℤ x)
legs_step v x y z a b c e h = omega (arith, ints, h, ap (λ (k : ℕ). up v * k) e, ap (λ (k : ℕ). down v * k) e)

even : (u s i : ℕ) → s < u → ¬ (suc i ≡ s) → ¬ (suc i ≡ u) → (min (suc i) u - min (suc i) s) + (min (suc i) u - min (suc i) s) ≡ (min i u - min i s) + (min (suc (suc i)) u - min (suc (suc i)) s)
even u s i o h k = omega arith

gone_straight : (ls : List Leg) (end : ℕ) (a : Axis) (i : ℕ) → legs_right ls end ≡ true → ¬ (suc i ∈ starts ls end) → gone ls end a (suc (suc i)) -ℤ gone ls end a (suc i) ≡ gone ls end a (suc i) -ℤ gone ls end a i
gone_straight [] end a i r n = refl
gone_straight (l ∷ ls) end a i r n =
    legs_step (l.speed a) (gone ls end a i) (gone ls end a (suc i)) (gone ls end a (suc (suc i))) _ _ _
    (even (until ls end) l.from i (first_right l ls end r).order (λ e. n (Memᴰ.head e)) (no_break_until ls end (suc i) (λ m. n (Memᴰ.tail m))))
    (gone_straight ls end a i (rest_right l ls end r) (λ m. n (Memᴰ.tail m)))

onto : (s x y z : ℤ) → z -ℤ y ≡ y -ℤ x → (s +ℤ z) -ℤ (s +ℤ y) ≡ (s +ℤ y) -ℤ (s +ℤ x)
onto s x y z e = omega (arith, ints, e)

-- POSITIONS

gone_within : (ls : List Leg) (end : ℕ) (a : Axis) (i : ℕ) → legs_right ls end ≡ true → nat_abs (gone ls end a i) ≤ 1000 * (min i end - min i (until ls end))
gone_within [] end a i r = omega arith
gone_within (l ∷ ls) end a i r =
    let f = first_right l ls end r in
    let o = f.order in
    let u = until_end ls end (rest_right l ls end r) in
    let h = times_within (l.speed a) (min i (until ls end) - min i l.from) 1000 (min i (until ls end) - min i l.from) (f.speeds a) (omega arith) in
    let k = sum_within (l.speed a *ℤ pos (min i (until ls end) - min i l.from)) (gone ls end a i) _ _ h (gone_within ls end a i (rest_right l ls end r)) in
    omega (arith, k)

gone_stays : (ls : List Leg) (end : ℕ) (a : Axis) (i j : ℕ) → legs_right ls end ≡ true → end ≤ i → end ≤ j → gone ls end a i ≡ gone ls end a j
gone_stays [] end a i j r h k = refl
gone_stays (l ∷ ls) end a i j r h k =
    let o = (first_right l ls end r).order in
    let u = until_end ls end (rest_right l ls end r) in
    let e : min i (until ls end) - min i l.from ≡ min j (until ls end) - min j l.from = omega arith in
    ap₂ (λ (x : ℕ) (y : ℤ). (l.speed a *ℤ pos x) +ℤ y) e (gone_stays ls end a i j (rest_right l ls end r) h k)

-- LINES

-- the line of a function of ticks, as a pair
abbrev pub of_places : (ℕ → ℤ) → ℕ → ℤ × ℤ
of_places p i = (p i -ℤ ((p (suc i) -ℤ p i) *ℤ pos i), p (suc i) -ℤ p i)

plus_slope : (a b c d : ℤ) → (a +ℤ b) -ℤ (c +ℤ d) ≡ (a -ℤ c) +ℤ (b -ℤ d)
plus_slope a b c d = omega (arith, ints)

plus_base : (a b v w : ℤ) (i : ℕ) → (a +ℤ b) -ℤ ((v +ℤ w) *ℤ pos i) ≡ (a -ℤ (v *ℤ pos i)) +ℤ (b -ℤ (w *ℤ pos i))
plus_base a b v w i = rw distr (omega (arith, ints))

pub line_plus : (p q : ℕ → ℤ) (i : ℕ) → of_places (λ j. p j +ℤ q j) i ≡ plus (of_places p i) (of_places q i)
line_plus p q i =
    pair_≡
    (ap (λ (v : ℤ). (p i +ℤ q i) -ℤ (v *ℤ pos i)) (plus_slope (p (suc i)) (q (suc i)) (p i) (q i)) ∙ plus_base (p i) (q i) (p (suc i) -ℤ p i) (q (suc i) -ℤ q i) i)
    (plus_slope (p (suc i)) (q (suc i)) (p i) (q i))

-- a function that agrees with a line at two ticks runs on it between them
line_by : (p : ℕ → ℤ) (i : ℕ) (a v : ℤ) → p i ≡ a +ℤ (v *ℤ pos i) → p (suc i) ≡ a +ℤ (v *ℤ pos (suc i)) → of_places p i ≡ (a, v)
line_by p i a v e f =
    let s : p (suc i) -ℤ p i ≡ v = slope (p i) (p (suc i)) e f in
    pair_≡ (ap (λ (w : ℤ). p i -ℤ (w *ℤ pos i)) s ∙ base (p i) e) s
  where
    slope : (x y : ℤ) → x ≡ a +ℤ (v *ℤ pos i) → y ≡ a +ℤ (v *ℤ pos (suc i)) → y -ℤ x ≡ v
    slope x y e f = omega (arith, ints, e, f)

    base : (x : ℤ) → x ≡ a +ℤ (v *ℤ pos i) → x -ℤ (v *ℤ pos i) ≡ a
    base x e = omega (arith, ints, e)

module _ (v : ℤ) (f u : ℕ) (o : f < u) where
  abbrev way : ℕ → ℤ
  way i = v *ℤ pos (min i u - min i f)

  way_before : (i : ℕ) → i ≤ f → way i ≡ pos 0 +ℤ (pos 0 *ℤ pos i)
  way_before i h = let e : min i u - min i f ≡ 0 = omega arith in rw e (omega (arith, ints))

  way_during : (i : ℕ) → f ≤ i → i ≤ u → way i ≡ neg_ℤ (v *ℤ pos f) +ℤ (v *ℤ pos i)
  way_during i h k =
      let e : min i u - min i f ≡ i - f = omega arith in
      rw e (go (i - f) (omega arith))
    where
      go : (k : ℕ) → i ≡ f + k → v *ℤ pos k ≡ neg_ℤ (v *ℤ pos f) +ℤ (v *ℤ pos i)
      go k e = rw e (omega (arith, ints))

  way_after : (i : ℕ) → u ≤ i → way i ≡ (v *ℤ pos (u - f)) +ℤ (pos 0 *ℤ pos i)
  way_after i h = let e : min i u - min i f ≡ u - f = omega arith in rw e (omega (arith, ints))

  pub leg_line_is : (i : ℕ) → of_places way i ≡ leg_line v f u i
  leg_line_is i = go (dec_lt i f) (dec_lt i u)
    where
      go : Dec (i < f) → Dec (i < u) → of_places way i ≡ leg_line v f u i
      go (yes h) k = rw (lt-ltb i f h) (line_by way i (pos 0) (pos 0) (way_before i (omega arith)) (way_before (suc i) (omega arith)))
      go (no h) (yes k) = rw (le-ltb i f (omega arith), lt-ltb i u k) (line_by way i (neg_ℤ (v *ℤ pos f)) v (way_during i (omega arith) (omega arith)) (way_during (suc i) (omega arith) (omega arith)))
      go (no h) (no k) = rw (le-ltb i f (omega arith), le-ltb i u (omega arith)) (line_by way i (v *ℤ pos (u - f)) (pos 0) (way_after i (omega arith)) (way_after (suc i) (omega arith)))

pub still : (z : ℤ) (i : ℕ) → of_places (λ _. z) i ≡ (z, pos 0)
still z i = line_by (λ _. z) i z (pos 0) (omega (arith, ints)) (omega (arith, ints))

pub legs_line_is : (ls : List Leg) (end : ℕ) (a : Axis) (i : ℕ) → legs_right ls end ≡ true → of_places (gone ls end a) i ≡ legs_line ls end a i
legs_line_is [] end a i r = still (pos 0) i
legs_line_is (l ∷ ls) end a i r =
    line_plus (λ j. l.speed a *ℤ pos (min j (until ls end) - min j l.from)) (gone ls end a) i
    ∙ ap₂ plus (leg_line_is (l.speed a) l.from (until ls end) (first_right l ls end r).order i) (legs_line_is ls end a i (rest_right l ls end r))

-- the line of a plan's path is its start, standing, and what its legs add
pub plan_line_is : (p : Plan) (a : Axis) (i : ℕ) → legs_right p.legs p.end ≡ true → line_of (plus (p.start a, pos 0) (legs_line p.legs p.end a i)) ≡ line_at (path_of p) a i
plan_line_is p a i r =
    ap line_of (sym (line_plus (λ _. p.start a) (gone p.legs p.end a) i
    ∙ ap₂ plus (still (p.start a) i) (legs_line_is p.legs p.end a i r)))

-- SLOPES

record Slope (u end i : ℕ) (v : ℤ) : Type 0 where
  early : i < u → v ≡ pos 0
  late : end ≤ i → v ≡ pos 0
  size : nat_abs v ≤ 1000

slope_zero : (u end i : ℕ) → Slope u end i (pos 0)
slope_zero u end i = record { early = λ _. refl; late = λ _. refl; size = omega arith }

legs_slope : (ls : List Leg) (end : ℕ) (a : Axis) (i : ℕ) → legs_right ls end ≡ true → Slope (until ls end) end i (legs_line ls end a i).1
legs_slope [] end a i r = slope_zero end end i
legs_slope (l ∷ ls) end a i r = go (legs_slope ls end a i (rest_right l ls end r)) (dec_lt i l.from) (dec_lt i (until ls end))
  where
    o : l.from < until ls end
    o = (first_right l ls end r).order

    u : until ls end ≤ end
    u = until_end ls end (rest_right l ls end r)

    v : ℤ
    v = l.speed a

    go : Slope (until ls end) end i (legs_line ls end a i).1 → Dec (i < l.from) → Dec (i < until ls end) → Slope l.from end i ((leg_line v l.from (until ls end) i).1 +ℤ (legs_line ls end a i).1)
    go h (yes x) y = rw (lt-ltb i l.from x, h.early (omega (arith, o))) (slope_zero l.from end i)
    go h (no x) (yes y) = rw (le-ltb i l.from (omega arith), lt-ltb i (until ls end) y, h.early y)
        (record { early = λ z. absurd (omega arith); late = λ z. absurd (omega (arith, u)); size = sum_within v (pos 0) 1000 0 ((first_right l ls end r).speeds a) (omega arith) })
    go h (no x) (no y) = rw (le-ltb i l.from (omega arith), le-ltb i (until ls end) (omega arith))
        (record { early = λ z. absurd (omega arith); late = λ z. zero_plus _ (h.late z); size = sum_within (pos 0) (legs_line ls end a i).1 0 1000 (omega arith) h.size })
      where
        zero_plus : (w : ℤ) → w ≡ pos 0 → pos 0 +ℤ w ≡ pos 0
        zero_plus w e = rw e refl

-- WHAT A RIGHT PLAN SAYS

pub record PlanRight (p : Plan) : Type 0 where
  pub starts : (a : Axis) → nat_abs (p.start a) ≤ 1000000
  pub low : 1 ≤ p.count
  pub high : p.count ≤ 8
  pub legs : legs_right p.legs p.end ≡ true
  pub last : p.end ≤ 50000

pub right_plan : (p : Plan) → plan_right p ≡ true → PlanRight p
right_plan p e =
    let a = and_parts _ (leb p.end 50000) e in
    let b = and_parts _ (legs_right p.legs p.end) a.0 in
    let d = and_parts (on_every_axis (λ a. within 1000000 (p.start a))) _ b.0 in
    let f = and_parts (leb 1 p.count) (leb p.count 8) d.1 in
    record {
      starts = λ x. leb-true (nat_abs (p.start x)) 1000000 (every (λ x. within 1000000 (p.start x)) d.0 x);
      low = leb-true _ _ f.0;
      high = leb-true _ _ f.1;
      legs = b.1;
      last = leb-true _ _ a.1;
    }

break_ends : (ls : List Leg) (end k : ℕ) → legs_right ls end ≡ true → k ∈ starts ls end → k ≤ end
break_ends [] end k r m = ⊎_elim (λ (e : k ≡ end). omega arith) (λ (m' : k ∈ []). absurd (Memᴰ.not-nil m')) (Memᴰ.cases_cons m)
break_ends (l ∷ ls) end k r m =
    let o = (first_right l ls end r).order in
    let u = until_end ls end (rest_right l ls end r) in
    ⊎_elim (λ (e : k ≡ l.from). omega arith) (break_ends ls end k (rest_right l ls end r)) (Memᴰ.cases_cons m)

module _ (p : Plan) (right : plan_right p ≡ true) where
  q : PlanRight p
  q = right_plan p right

  place_within : (a : Axis) (i : ℕ) → nat_abs ((path_of p).place a i) ≤ 51000000 * 1
  place_within a i =
      let e = q.last in
      let h = sum_within (p.start a) (gone p.legs p.end a i) 1000000 _ (q.starts a) (gone_within p.legs p.end a i q.legs) in
      omega (arith, h)

  slope_is : (a : Axis) (i : ℕ) → speed_at (path_of p) a i ≡ (legs_line p.legs p.end a i).1
  slope_is a i = sym (ap (λ (l : Line). l.slope) (plan_line_is p a i q.legs)) ∙ zero_plus (legs_line p.legs p.end a i).1
    where
      zero_plus : (w : ℤ) → pos 0 +ℤ w ≡ w
      zero_plus w = omega (arith, ints)

  slope_right : (a : Axis) (i : ℕ) → Slope (until p.legs p.end) p.end i (speed_at (path_of p) a i)
  slope_right a i = subst (Slope (until p.legs p.end) p.end i) (sym (slope_is a i)) (legs_slope p.legs p.end a i q.legs)

  step_within : (a : Axis) (i : ℕ) → nat_abs (speed_at (path_of p) a i *ℤ pos i) ≤ 50000000
  step_within a i = go (dec_lt i p.end)
    where
      go : Dec (i < p.end) → nat_abs (speed_at (path_of p) a i *ℤ pos i) ≤ 50000000
      go (yes h) = let e = q.last in times_within (speed_at (path_of p) a i) i 1000 50000 (slope_right a i).size (omega arith)
      go (no h) = subst (λ (v : ℤ). nat_abs (v *ℤ pos i) ≤ 50000000) (sym ((slope_right a i).late (omega arith))) (omega (arith, times_within (pos 0) i 0 i (omega arith) (omega arith)))

  pub plan_kept : Kept 1 (path_of p)
  plan_kept = record {
    turns = λ a i n. onto (p.start a) _ _ _ (gone_straight p.legs p.end a i q.legs n);
    stays = λ a i h. ap (λ (z : ℤ). p.start a +ℤ z) (let e = q.last in gone_stays p.legs p.end a i 50000 q.legs (omega arith) (omega arith));
    ends = λ k m. let e = q.last in let h = break_ends p.legs p.end k q.legs m in omega arith;
    places = place_within;
    slopes = λ a i. let h = (slope_right a i).size in omega (arith, h);
    bases = λ a i. let h = diff_within ((path_of p).place a i) (speed_at (path_of p) a i *ℤ pos i) _ _ (place_within a i) (step_within a i) in omega (arith, h);
  }

pub plans_kept : PlansKept
plans_kept = plan_kept

pub standing_kept : StandingKept
standing_kept = record {
  turns = λ a i n. refl;
  stays = λ a i h. refl;
  ends = λ k m. absurd (Memᴰ.not-nil m);
  places = λ a i. omega arith;
  slopes = λ a i. omega arith;
  bases = λ a i. let e = ap (λ (l : ℤ × ℤ). nat_abs l.0) (still (pos 0) i) in omega (arith, e);
}

-- BREAKS

-- the start ticks rise, so the first above a tick is the least
before_is : (t : Fraction) (k : ℕ) → Proper t → is_before t (tick k) ≡ ltb (whole t) k
before_is t k pt = go (dec_lt (whole t) k)
  where
    go : Dec (whole t < k) → is_before t (tick k) ≡ ltb (whole t) k
    go (yes h) = lt-ltb _ _ (whole_after t k pt h) ∙ sym (lt-ltb _ _ h)
    go (no h) = go' (dec_lt (t.num * 1) (k * t.den))
      where
        go' : Dec (t.num * 1 < k * t.den) → is_before t (tick k) ≡ ltb (whole t) k
        go' (yes b) = absurd (h (after_whole t k pt b))
        go' (no b) = le-ltb _ _ (omega arith) ∙ sym (le-ltb _ _ (omega arith))

AtLeast : ℕ → Option ℕ → Type 0
AtLeast k None = Unit {0}
AtLeast k (Some j) = k ≤ j

starts_least : (ls : List Leg) (end w : ℕ) → legs_right ls end ≡ true → AtLeast (until ls end) (first_past w (starts ls end))
unfolding AtLeast
starts_least [] end w r = go (dec_lt w end)
  where
    go : Dec (w < end) → AtLeast end (cond (ltb w end) (Some end) None)
    go (yes h) = rw (lt-ltb w end h) (omega arith)
    go (no h) = rw (le-ltb w end (omega arith)) tt
starts_least (l ∷ ls) end w r = go (starts_least ls end w (rest_right l ls end r)) (dec_lt w l.from)
  where
    weaker : (o : Option ℕ) → AtLeast (until ls end) o → AtLeast l.from o
    weaker None h = tt
    weaker (Some j) h = let o = (first_right l ls end r).order in omega arith

    go : AtLeast (until ls end) (first_past w (starts ls end)) → Dec (w < l.from) → AtLeast l.from (cond (ltb w l.from) (Some l.from) (first_past w (starts ls end)))
    go g (yes h) = rw (lt-ltb w l.from h) (omega arith)
    go g (no h) = rw (le-ltb w l.from (omega arith)) (weaker (first_past w (starts ls end)) g)

min_with_least : (k j : ℕ) (o : Option ℕ) → k < j → AtLeast j o → min_with k o ≡ k
unfolding AtLeast
min_with_least k j None h l = refl
min_with_least k j (Some i) h l = omega arith

pub first_break : (ls : List Leg) (end : ℕ) (t : Fraction) → Proper t → legs_right ls end ≡ true → first_after t (starts ls end) ≡ first_past (whole t) (starts ls end)
first_break [] end t pt r = ap (λ (b : Bool). cond b (Some end) None) (before_is t end pt)
first_break (l ∷ ls) end t pt r =
    let h = first_break ls end t pt (rest_right l ls end r) in
    ap₂ (λ (b : Bool) (o : Option ℕ). cond b (Some (min_with l.from o)) o) (before_is t l.from pt) h
    ∙ ap (λ (k : ℕ). cond (ltb (whole t) l.from) (Some k) (first_past (whole t) (starts ls end)))
    (min_with_least l.from (until ls end) (first_past (whole t) (starts ls end)) (first_right l ls end r).order (starts_least ls end (whole t) (rest_right l ls end r)))
