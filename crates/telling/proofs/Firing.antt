-- A firing of the hall is one of the machine's, of a certificate that fails first.
use Rattle.std.proofs.Common.{◌≡◌, ℕ, ◌<◌, ◌≤◌, true, not, ◌⊎◌, nat_abs, is_some, Some, None, Option, sym, refl, ap, ◌∙◌, subst, inl, inr, arith}
use Rattle.rules.specs.Basics.{◌∈◌, the}
use Rattle.rules.specs.Fractions.{Usual}
use Rattle.rules.specs.Stamps.{Stamp}
use Rattle.rules.specs.Paths.{Axis, leg, Kept}
use Rattle.rules.specs.Books.{path, break_after}
use Rattle.rules.specs.Slots.{slot, leg_slot}
use Rattle.model.specs.Halls.{Craft, Hall, in_hall, others}
use Rattle.model.specs.Moves.{nobody, craft_of, at_break}
use Rattle.events.specs.Machine.{Sky, flies, Pair, In, Certified, Flips, Rereads}
use Rattle.accounts.proofs.Puts.{put_here, put_other, same_or_not}
use Rattle.telling.proofs.Places.{slot_swap, slot_low, slot_one}
use Rattle.telling.proofs.Effects.{Cell, failing, renewed}
use Rattle.telling.proofs.Moved.{Moved, others_out, others_in, cell_pair, cell_apart, leg_apart, craft_anew, still_in, leg_fired, leg_amidst, leg_moved, bit_fired, bit_fired_here, bit_fired_other}
use Rattle.certified.specs.Histories.{sky_of, core_of}
use Rattle.accounts.specs.Laws.{box_in}
use Rattle.telling.proofs.Skies.{flies_is, two, certified, failing_swap, SlowLegs, failing_usual, usual_inside, break_usual, leg_slow, Live, Good, moved_live, moved_neat}

pub flying : (m : Hall) (c : ℕ) → flies (sky_of m) c ≡ true → in_hall m c ≡ true
flying m c f = sym (flies_is (m.craft c)) ∙ f

pub in_flight : (m : Hall) (c : ℕ) → in_hall m c ≡ true → flies (sky_of m) c ≡ true
in_flight m c f = flies_is (m.craft c) ∙ f

pub pair_low : (m : Hall) → Good m → (i : Pair) → In (sky_of m) i → i.higher < 64
pair_low m g i p = g.low i.higher (flying m i.higher p.second)

-- ---- a bit's certificate
module _ (m : Hall) (g : Good m) (k : Stamp) (uk : Usual k.time) where
  module _ (a : Axis) (c d : ℕ) (p : c < d) (ic : in_hall m c ≡ true) (id : in_hall m d ≡ true) (due : m.queue (slot a c d) ≡ Some k) where
    abbrev q : d < 64
    q = g.low d id

    abbrev flipped : Hall
    flipped = bit_fired a c d k m p q

    other_slot : (j : Pair) → In (sky_of m) j → (b : Axis) → (j ≡ two c d → b ≡ a → ⊥) → slot b j.lower j.higher ≡ slot a c d → ⊥
    other_slot j r b n e =
        let z = slot_one b a j.lower j.higher c d r.order (pair_low m g j r) p q e in
        n (λ i. record { lower = z.1 i; higher = z.2 i }) z.0

    pub bit_flips : Flips (sky_of m) (two c d) a k (core_of m) (core_of flipped)
    bit_flips = record {
      inside = record { first = in_flight m c ic; second = in_flight m d id; order = p };
      due = due;
      turned = ap (λ (x : Cell). x.0) (bit_fired_here a c d k m p q);
      next = certified flipped g.slow k a c d p ic id uk.proper (usual_inside k.time uk)
          (ap (λ (x : Cell). x.1) (bit_fired_here a c d k m p q) ∙ ap (failing m.craft k a c d) (sym (ap (λ (x : Cell). x.0) (bit_fired_here a c d k m p q))));
      bits = λ j r b n. ap (λ (x : Cell). x.0) (bit_fired_other a c d k m p q (slot b j.lower j.higher) (other_slot j r b n));
      fails = λ j r b n. ap (λ (x : Cell). x.1) (bit_fired_other a c d k m p q (slot b j.lower j.higher) (other_slot j r b n));
      legs = λ e f b. refl;
      turns = λ e f. ap (λ (x : Cell). x.1) (bit_fired_other a c d k m p q (leg_slot e) (λ r. let z = slot_low a c d p q in omega (arith, r)));
    }

    pub bit_good : Good flipped
    bit_good = record {
      low = g.low;
      live = λ s j e. live s j e (same_or_not s (slot a c d));
      neat = λ s j e. neat s j e (same_or_not s (slot a c d));
      slow = g.slow;
    }
      where
        live : (s : ℕ) (j : Stamp) → flipped.queue s ≡ Some j → (s ≡ slot a c d) ⊎ (s ≡ slot a c d → ⊥) → Live (in_hall m) s
        live s j e (inl r) = inl (a, c, d, p, ic, id, r)
        live s j e (inr n) = g.live s j (sym (ap (λ (x : Cell). x.1) (bit_fired_other a c d k m p q s n)) ∙ e)

        neat : (s : ℕ) (j : Stamp) → flipped.queue s ≡ Some j → (s ≡ slot a c d) ⊎ (s ≡ slot a c d → ⊥) → Usual j.time
        neat s j e (inl r) = failing_usual m.craft k a c d (not (m.bit (slot a c d))) j uk (sym (ap (λ (x : Cell). x.1) (bit_fired_here a c d k m p q)) ∙ ap flipped.queue (sym r) ∙ e)
        neat s j e (inr n) = g.neat s j (sym (ap (λ (x : Cell). x.1) (bit_fired_other a c d k m p q s n)) ∙ e)

  -- ---- a leg certificate
  module _ (w : ℕ) (w8 : w ≤ 8) (kept : (c : ℕ) → Kept w (path m.book c)) (c : ℕ) (ic : in_hall m c ≡ true) (due : m.queue (leg_slot c) ≡ Some k) where
    abbrev reread : Hall
    reread = leg_fired c k m ic

    abbrev anew : Craft
    anew = record { box = (craft_of c m).box; leg = leg (path m.book c) k.time }

    abbrev moved : Moved c (others c m) (renewed m.book (craft_anew c k m ic) k c m.bit) (at_break (break_after m.book c k.time)) m reread
    moved = leg_moved c k m ic

    abbrev book_same : reread.book ≡ m.book
    book_same = (leg_amidst c k m ic).0.0

    abbrev craft_same : reread.craft ≡ craft_anew c k m ic
    craft_same = (leg_amidst c k m ic).0.1

    abbrev bit_same : reread.bit ≡ m.bit
    bit_same = (leg_amidst c k m ic).1

    low : (d : ℕ) → d ∈ others c m → d < 64
    low d e = (others_out c m d e).low

    apart : (d : ℕ) → d ∈ others c m → c ≡ d → ⊥
    apart d e r = (others_out c m d e).apart (sym r)

    craft_here : reread.craft c ≡ Some anew
    craft_here = (λ i. craft_same i c) ∙ put_here m.craft c (Some anew)

    craft_other : (d : ℕ) → (d ≡ c → ⊥) → reread.craft d ≡ m.craft d
    craft_other d n = (λ i. craft_same i d) ∙ put_other m.craft c (Some anew) d n

    pub anew_slow : SlowLegs reread.craft
    anew_slow d a = by (same_or_not d c)
      where
        by : (d ≡ c) ⊎ (d ≡ c → ⊥) → nat_abs ((the nobody (reread.craft d)).leg a).slope ≤ 8000
        by (inl r) = subst (λ (o : Option Craft). nat_abs ((the nobody o).leg a).slope ≤ 8000) (sym (ap reread.craft r ∙ craft_here)) (leg_slow w (path m.book c) k.time a w8 (kept c))
        by (inr n) = subst (λ (o : Option Craft). nat_abs ((the nobody o).leg a).slope ≤ 8000) (sym (craft_other d n)) (g.slow d a)

    box_anew : (o : Option Craft) → is_some o ≡ true → Some (the nobody o).box ≡ box_in o
    box_anew None e = let z : ◌≡◌ {A = ℕ} 0 1 = cc in absurd (omega arith)
    box_anew (Some x) e = refl

    pub leg_sky : sky_of reread ≡ sky_of m
    leg_sky = λ i. record { box = λ d. box d (same_or_not d c) i; path = λ d. path (book_same i) d }
      where
        box : (d : ℕ) → (d ≡ c) ⊎ (d ≡ c → ⊥) → box_in (reread.craft d) ≡ box_in (m.craft d)
        box d (inl r) = ap (λ (x : ℕ). box_in (reread.craft x)) r ∙ ap box_in craft_here ∙ box_anew (m.craft c) ic ∙ ap (λ (x : ℕ). box_in (m.craft x)) (sym r)
        box d (inr n) = ap box_in (craft_other d n)

    in_same : (d : ℕ) → in_hall reread d ≡ in_hall m d
    in_same d = (λ i. is_some (craft_same i d)) ∙ still_in c k m ic d

    -- both orders of a pair of c's
    pair_cell : (a : Axis) (d : ℕ) → in_hall m d ≡ true → (d ≡ c → ⊥) → reread.queue (slot a c d) ≡ failing reread.craft k a c d (reread.bit (slot a c d))
    pair_cell a d id n =
        ap (λ (x : Cell). x.1) (cell_pair c (others c m) (renewed m.book (craft_anew c k m ic) k c m.bit) (at_break (break_after m.book c k.time)) m reread (g.low c ic) low apart moved a d (others_in c m d (record { low = g.low d id; here = id; apart = n })))
        ∙ (λ i. failing (sym craft_same i) k a c d (sym bit_same i (slot a c d)))

    pair_swap : (a : Axis) (d : ℕ) → in_hall m d ≡ true → (d ≡ c → ⊥) → reread.queue (slot a d c) ≡ failing reread.craft k a d c (reread.bit (slot a d c))
    pair_swap a d id n =
        ap reread.queue (slot_swap a d c) ∙ pair_cell a d id n ∙ failing_swap reread.craft k a c d (reread.bit (slot a c d)) ∙ ap (λ (s : ℕ). failing reread.craft k a d c (reread.bit s)) (slot_swap a c d)

    -- the machine's certificates are told of the hall's own sky
    next : (i : Pair) → In (sky_of m) i → (i.lower ≡ c) ⊎ (i.higher ≡ c) → (a : Axis) → Certified (sky_of m) (core_of reread) k i a
    next i r o a = subst (λ (y : Sky). Certified y (core_of reread) k i a) leg_sky (by o)
      where
        by : (i.lower ≡ c) ⊎ (i.higher ≡ c) → Certified (sky_of reread) (core_of reread) k i a
        by (inl e) = certified reread anew_slow k a i.lower i.higher r.order (in_same i.lower ∙ flying m i.lower r.first) (in_same i.higher ∙ flying m i.higher r.second) uk.proper (usual_inside k.time uk)
            (subst (λ (x : ℕ). reread.queue (slot a x i.higher) ≡ failing reread.craft k a x i.higher (reread.bit (slot a x i.higher))) (sym e)
            (pair_cell a i.higher (flying m i.higher r.second) (λ f. let z = r.order in omega (arith, e, f))))
        by (inr e) = certified reread anew_slow k a i.lower i.higher r.order (in_same i.lower ∙ flying m i.lower r.first) (in_same i.higher ∙ flying m i.higher r.second) uk.proper (usual_inside k.time uk)
            (subst (λ (x : ℕ). reread.queue (slot a i.lower x) ≡ failing reread.craft k a i.lower x (reread.bit (slot a i.lower x))) (sym e)
            (pair_swap a i.lower (flying m i.lower r.first) (λ f. let z = r.order in omega (arith, e, f))))

    pub leg_rereads : Rereads (sky_of m) c k (core_of m) (core_of reread)
    leg_rereads = record {
      inside = in_flight m c ic;
      due = due;
      read = record { lines = λ a. ap (λ (o : Option Craft). (the nobody o).leg a) craft_here; end = moved.leg };
      next = next;
      bits = λ i r a. (λ j. bit_same j (slot a i.lower i.higher));
      fails = λ i r nl nh a. ap (λ (x : Cell). x.1) (cell_apart c (others c m) (renewed m.book (craft_anew c k m ic) k c m.bit) (at_break (break_after m.book c k.time)) m reread (g.low c ic) low apart moved a i.lower i.higher r.order (pair_low m g i r) (λ e. nl (sym e)) (λ e. nh (sym e)));
      legs = λ d f n b. ap (λ (o : Option Craft). (the nobody o).leg b) (craft_other d n);
      turns = λ d f n. leg_apart c (others c m) (renewed m.book (craft_anew c k m ic) k c m.bit) (at_break (break_after m.book c k.time)) m reread (g.low c ic) low apart moved d n;
    }

    pub leg_good : Good reread
    leg_good = record {
      low = λ d f. g.low d (sym (in_same d) ∙ f);
      live = moved_live c (renewed m.book (craft_anew c k m ic) k c m.bit) (at_break (break_after m.book c k.time)) m reread (g.low c ic) moved g (in_hall reread)
          (λ d n f. in_same d ∙ f) (λ a d j e. in_same c ∙ ic) (λ j e. in_same c ∙ ic);
      neat = moved_neat c (renewed m.book (craft_anew c k m ic) k c m.bit) (at_break (break_after m.book c k.time)) m reread (g.low c ic) moved g
          (λ a d j e. failing_usual (craft_anew c k m ic) k a c d (m.bit (slot a c d)) j uk e)
          (λ j e. break_usual w (path m.book c) k.time j (kept c) e);
      slow = anew_slow;
    }
