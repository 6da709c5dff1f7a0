-- Changes at a quiet clock: entering, leaving, and a change of the book between, keep the machine at rest.
use Rattle.std.proofs.Common.{◌≡◌, ℕ, ◌<◌, ◌≤◌, true, false, ◌⊎◌, nat_abs, is_some, Some, None, Option, sym, ap, ◌∙◌, subst, inl, inr, arith}
use Rattle.std.proofs.lemmas.Bool.{both_ways}
use Rattle.rules.specs.Basics.{◌∈◌, the}
use Rattle.rules.specs.Fractions.{Fraction, Usual}
use Rattle.rules.specs.Stamps.{at}
use Rattle.rules.specs.Paths.{Axis, leg}
use Rattle.rules.specs.Books.{path, break_after}
use Rattle.rules.specs.Boxes.{Box}
use Rattle.rules.specs.Slots.{slot, leg_slot}
use Rattle.model.specs.Halls.{Craft, Hall, in_hall, others}
use Rattle.model.specs.Moves.{nobody, craft_of, at_break, enter, leave}
use Rattle.events.specs.Machine.{Pair, In, Reads}
use Rattle.events.specs.Changes.{Stays, Remains, Anew, Changed}
use Rattle.accounts.proofs.Puts.{put_here, put_other, same_or_not}
use Rattle.telling.proofs.Places.{slot_swap}
use Rattle.telling.proofs.Effects.{Cell, cell, failing, fresh}
use Rattle.telling.proofs.Moved.{Moved, others_out, others_in, cell_pair, cell_apart, leg_apart, leg_now, craft_then, enter_amid, enter_moved, leave_amid, leave_moved}
use Rattle.certified.specs.Histories.{sky_of, core_of}
use Rattle.accounts.specs.Laws.{box_in}
use Rattle.telling.proofs.Skies.{two, certified, read_right, fresh_swap, SlowLegs, failing_usual, usual_inside, break_usual, leg_slow, Good, moved_live, moved_neat}
use Rattle.telling.proofs.Firing.{flying, pair_low}
use Rattle.telling.proofs.Steps.{KeptPaths}

none_some : {A : Type 0} {B : Type 0} (x : B) → ◌≡◌ {A = Option B} None (Some x) → A
none_some x e = let z : ◌≡◌ {A = ℕ} 0 1 = cc in absurd (omega arith)

-- ---- entering
module _ (w : ℕ) (w8 : w ≤ 8) (t : Fraction) (ut : Usual t) (m : Hall) (g : Good m) (kept : KeptPaths w w8 m) (c : ℕ) (hc : c < 64) (x : Box) where
  abbrev came : Hall
  came = (enter c x (at t) m).hall

  abbrev moved : Moved c (others c m) (λ a d. fresh (craft_then c x (at t) m) (at t) a c d) (at_break (break_after m.book c t)) m came
  moved = enter_moved c x (at t) m

  abbrev book_same : came.book ≡ m.book
  book_same = (enter_amid c x (at t) m).0

  abbrev craft_same : came.craft ≡ craft_then c x (at t) m
  craft_same = (enter_amid c x (at t) m).1

  craft_here : came.craft c ≡ Some (leg_now c x (at t) m)
  craft_here = (λ i. craft_same i c) ∙ put_here m.craft c (Some (leg_now c x (at t) m))

  pub craft_other : (d : ℕ) → (d ≡ c → ⊥) → came.craft d ≡ m.craft d
  craft_other d n = (λ i. craft_same i d) ∙ put_other m.craft c (Some (leg_now c x (at t) m)) d n

  in_here : in_hall came c ≡ true
  in_here = ap (λ (o : Option Craft). is_some o) craft_here

  in_other : (d : ℕ) → (d ≡ c → ⊥) → in_hall came d ≡ in_hall m d
  in_other d n = ap (λ (o : Option Craft). is_some o) (craft_other d n)

  low : (d : ℕ) → d ∈ others c m → d < 64
  low d e = (others_out c m d e).low

  apart : (d : ℕ) → d ∈ others c m → c ≡ d → ⊥
  apart d e r = (others_out c m d e).apart (sym r)

  came_slow : SlowLegs came.craft
  came_slow d a = by (same_or_not d c)
    where
      by : (d ≡ c) ⊎ (d ≡ c → ⊥) → nat_abs ((the nobody (came.craft d)).leg a).slope ≤ 8000
      by (inl r) = subst (λ (o : Option Craft). nat_abs ((the nobody o).leg a).slope ≤ 8000) (sym (ap came.craft r ∙ craft_here)) (leg_slow w (path m.book c) t a w8 (kept c))
      by (inr n) = subst (λ (o : Option Craft). nat_abs ((the nobody o).leg a).slope ≤ 8000) (sym (craft_other d n)) (g.slow d a)

  pub enter_good : Good came
  enter_good = record {
    low = λ d f. by d f (same_or_not d c);
    live = moved_live c (λ a d. fresh (craft_then c x (at t) m) (at t) a c d) (at_break (break_after m.book c t)) m came hc moved g (in_hall came) (λ d n f. in_other d n ∙ f) (λ a d k e. in_here) (λ k e. in_here);
    neat = moved_neat c (λ a d. fresh (craft_then c x (at t) m) (at t) a c d) (at_break (break_after m.book c t)) m came hc moved g
        (λ a d k e. failing_usual (craft_then c x (at t) m) (at t) a c d _ k ut e)
        (λ k e. break_usual w (path m.book c) t k (kept c) e);
    slow = came_slow;
  }
    where
      by : (d : ℕ) → in_hall came d ≡ true → (d ≡ c) ⊎ (d ≡ c → ⊥) → d < 64
      by d f (inl r) = omega (arith, r, hc)
      by d f (inr n) = g.low d (sym (in_other d n) ∙ f)

  -- the cells of c's pairs, in both orders
  pair_cell : (a : Axis) (d : ℕ) → in_hall came d ≡ true → (d ≡ c → ⊥) → cell came (slot a c d) ≡ fresh came.craft (at t) a c d
  pair_cell a d id n =
      let im = sym (in_other d n) ∙ id in
      cell_pair c (others c m) (λ a d. fresh (craft_then c x (at t) m) (at t) a c d) (at_break (break_after m.book c t)) m came hc low apart moved a d (others_in c m d (record { low = g.low d im; here = im; apart = n }))
      ∙ (λ i. fresh (sym craft_same i) (at t) a c d)

  pair_swap : (a : Axis) (d : ℕ) → in_hall came d ≡ true → (d ≡ c → ⊥) → cell came (slot a d c) ≡ fresh came.craft (at t) a d c
  pair_swap a d id n = ap (cell came) (slot_swap a d c) ∙ pair_cell a d id n ∙ fresh_swap came.craft (at t) a c d

  anew : (a : Axis) (e f : ℕ) → e < f → in_hall came e ≡ true → in_hall came f ≡ true → cell came (slot a e f) ≡ fresh came.craft (at t) a e f → Anew (sky_of came) t (core_of came) (two e f) a
  anew a e f o ie jf z = record {
    right = read_right came (at t) a e f o ie jf (ap (λ (y : Cell). y.0) z);
    granted = certified came came_slow (at t) a e f o ie jf ut.proper (usual_inside t ut)
        (ap (λ (y : Cell). y.1) z ∙ ap (failing came.craft (at t) a e f) (sym (ap (λ (y : Cell). y.0) z)));
  }

  stays : (d : ℕ) → (d ≡ c → ⊥) → Stays (sky_of m) (sky_of came) (core_of m) (core_of came) d
  stays d n = record {
    box = ap box_in (craft_other d n);
    path = (λ i. path (book_same i) d);
    leg = λ a. ap (λ (o : Option Craft). (the nobody o).leg a) (craft_other d n);
    turn = leg_apart c (others c m) (λ a d. fresh (craft_then c x (at t) m) (at t) a c d) (at_break (break_after m.book c t)) m came hc low apart moved d n;
  }

  pub enter_changed : Changed (sky_of m) (sky_of came) t (core_of m) (core_of came)
  enter_changed = record {
    craft = λ d f. craft d (same_or_not d c);
    pairs = λ i p a. pairs i p a (same_or_not i.lower c) (same_or_not i.higher c);
  }
    where
      craft : (d : ℕ) → (d ≡ c) ⊎ (d ≡ c → ⊥) → (Stays (sky_of m) (sky_of came) (core_of m) (core_of came) d) ⊎ (Reads ((sky_of came).path d) t ((core_of came).leg d) ((core_of came).turn d))
      craft d (inr n) = inl (stays d n)
      craft d (inl r) = inr (subst (λ (d : ℕ). Reads (path came.book d) t (λ a. (craft_of d came).leg a) (came.queue (leg_slot d))) (sym r) (record {
        lines = λ a. ap (λ (o : Option Craft). (the nobody o).leg a) craft_here ∙ (λ i. leg (path (sym book_same i) c) t a);
        end = moved.leg ∙ (λ i. at_break (break_after (sym book_same i) c t));
      }))

      pairs : (i : Pair) → In (sky_of came) i → (a : Axis) → (i.lower ≡ c) ⊎ (i.lower ≡ c → ⊥) → (i.higher ≡ c) ⊎ (i.higher ≡ c → ⊥) → (Remains (sky_of m) (sky_of came) (core_of m) (core_of came) i a) ⊎ (Anew (sky_of came) t (core_of came) i a)
      pairs i p a (inr nl) (inr nh) =
          let z = cell_apart c (others c m) (λ a d. fresh (craft_then c x (at t) m) (at t) a c d) (at_break (break_after m.book c t)) m came hc low apart moved a i.lower i.higher p.order (pair_low came enter_good i p) (λ e. nl (sym e)) (λ e. nh (sym e)) in
          inl (record { first = stays i.lower nl; second = stays i.higher nh; bit = ap (λ (y : Cell). y.0) z; fails = ap (λ (y : Cell). y.1) z })
      pairs i p a (inl el) (inl eh) = absurd (let z = p.order in omega (arith, z, el, eh))
      pairs i p a (inl el) (inr nh) = inr (anew a i.lower i.higher p.order (flying came i.lower p.first) (flying came i.higher p.second)
          (subst (λ (e : ℕ). cell came (slot a e i.higher) ≡ fresh came.craft (at t) a e i.higher) (sym el) (pair_cell a i.higher (flying came i.higher p.second) nh)))
      pairs i p a (inr nl) (inl eh) = inr (anew a i.lower i.higher p.order (flying came i.lower p.first) (flying came i.higher p.second)
          (subst (λ (e : ℕ). cell came (slot a i.lower e) ≡ fresh came.craft (at t) a i.lower e) (sym eh) (pair_swap a i.lower (flying came i.lower p.first) nl)))

-- ---- leaving
module _ (t : Fraction) (m : Hall) (g : Good m) (c : ℕ) (hc : c < 64) where
  abbrev went : Hall
  went = (leave c m).hall

  abbrev away : Moved c (others c m) (λ a d. (false, None)) None m went
  away = leave_moved c m

  pub gone_here : went.craft c ≡ None
  gone_here = (λ i. (leave_amid c m).1 i c) ∙ put_here m.craft c None

  pub gone_other : (d : ℕ) → (d ≡ c → ⊥) → went.craft d ≡ m.craft d
  gone_other d n = (λ i. (leave_amid c m).1 i d) ∙ put_other m.craft c None d n

  still_there : (d : ℕ) → in_hall went d ≡ true → (d ≡ c → ⊥)
  still_there d f r = both_ways (in_hall went d) (ap (λ (e : ℕ). in_hall went e) r ∙ ap (λ (o : Option Craft). is_some o) gone_here) f

  left_other : (d : ℕ) → (d ≡ c → ⊥) → in_hall went d ≡ in_hall m d
  left_other d n = ap (λ (o : Option Craft). is_some o) (gone_other d n)

  pub leave_good : Good went
  leave_good = record {
    low = λ d f. g.low d (sym (left_other d (still_there d f)) ∙ f);
    live = moved_live c (λ a d. (false, None)) None m went hc away g (in_hall went) (λ d n f. left_other d n ∙ f) (λ a d k e. none_some k e) (λ k e. none_some k e);
    neat = moved_neat c (λ a d. (false, None)) None m went hc away g (λ a d k e. none_some k e) (λ k e. none_some k e);
    slow = λ d a. slow d a (same_or_not d c);
  }
    where
      slow : (d : ℕ) (a : Axis) → (d ≡ c) ⊎ (d ≡ c → ⊥) → nat_abs ((the nobody (went.craft d)).leg a).slope ≤ 8000
      slow d a (inl r) = subst (λ (o : Option Craft). nat_abs ((the nobody o).leg a).slope ≤ 8000) (sym (ap went.craft r ∙ gone_here)) (omega arith)
      slow d a (inr n) = subst (λ (o : Option Craft). nat_abs ((the nobody o).leg a).slope ≤ 8000) (sym (gone_other d n)) (g.slow d a)

  pub leave_changed : Changed (sky_of m) (sky_of went) t (core_of m) (core_of went)
  leave_changed = record {
    craft = λ d f. inl (stays d (still_there d (flying went d f)));
    pairs = λ i p a. inl (remains i p a (still_there i.lower (flying went i.lower p.first)) (still_there i.higher (flying went i.higher p.second)));
  }
    where
      low : (d : ℕ) → d ∈ others c m → d < 64
      low d e = (others_out c m d e).low

      apart : (d : ℕ) → d ∈ others c m → c ≡ d → ⊥
      apart d e r = (others_out c m d e).apart (sym r)

      stays : (d : ℕ) → (d ≡ c → ⊥) → Stays (sky_of m) (sky_of went) (core_of m) (core_of went) d
      stays d n = record {
        box = ap box_in (gone_other d n);
        path = (λ i. path ((leave_amid c m).0 i) d);
        leg = λ a. ap (λ (o : Option Craft). (the nobody o).leg a) (gone_other d n);
        turn = leg_apart c (others c m) (λ a d. (false, None)) None m went hc low apart away d n;
      }

      remains : (i : Pair) → In (sky_of went) i → (a : Axis) → (i.lower ≡ c → ⊥) → (i.higher ≡ c → ⊥) → Remains (sky_of m) (sky_of went) (core_of m) (core_of went) i a
      remains i p a nl nh =
          let z = cell_apart c (others c m) (λ a d. (false, None)) None m went hc low apart away a i.lower i.higher p.order (pair_low went leave_good i p) (λ e. nl (sym e)) (λ e. nh (sym e)) in
          record { first = stays i.lower nl; second = stays i.higher nh; bit = ap (λ (y : Cell). y.0) z; fails = ap (λ (y : Cell). y.1) z }
