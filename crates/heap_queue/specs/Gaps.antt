-- A gap in a heap, and how it moves.
use Rattle.std.specs.Prelude.{◌≡◌, ℕ, ◌+◌, ◌*◌, ◌<◌, Bool, true, false, ◌⊎◌, Some, None, Option, ◌≢◌, refl}
use Rattle.std.proofs.Common.{sym, ap, ◌∙◌, subst, inl, inr, ⊎_elim, arith}
use Rattle.std.proofs.Math.Path.{fun_ext}
use Rattle.std.proofs.lemmas.Bool.{cases_eq, eq-eqb, ne_eqb, cond-true, cond-false}
use Rattle.rules.specs.Basics.{put}
use Rattle.times.specs.Of.{moment_of}
use Rattle.queues.proofs.Firsts.{some_some}
use Rattle.queues.specs.declared.entry.Entry.{Entry}
use Rattle.heap_queue.specs.declared.tree.Tree.{Tree}
use Rattle.heap_queue.specs.declared.tree.Gap.{Gap}
use Rattle.queues.specs.Entries.{comes_before}
use Rattle.queues.specs.EntryOrder.{keys, ahead_never}
use Rattle.heap_queue.specs.Heaps.{up, entry_of, slot_of, place_of, told, held, Places, Found, Ordered, IndexedBut, OrderedBut, Gapped, Below, Above, ParentAfter, LeastChild, ChildBefore, Filled, Went, Settled}

-- the order of two entries from that of two equal ones
pub carry : {a b c d : Entry} {x : Bool} → a ≡ c → b ≡ d → comes_before c d ≡ x → comes_before a b ≡ x
carry p q h = (λ i. comes_before (p i) (q i)) ∙ h

-- a gap's children stand at two places
children : (k gap : ℕ) → 0 < k → up k ≡ gap → (k ≡ 2 * gap + 1) ⊎ (k ≡ 2 * gap + 1 + 1)
children k gap p e = ⊎_elim inl (λ n. inr (omega arith)) (cases_eq k (2 * gap + 1))

pub left_least : (t : Tree) (gap : ℕ) → 2 * gap + 1 < t.len → (2 * gap + 1 + 1 < t.len → comes_before (entry_of t (2 * gap + 1 + 1)) (entry_of t (2 * gap + 1)) ≡ false) → LeastChild t gap (2 * gap + 1)
left_least t gap h r = record {
  inside = h;
  under = omega arith;
  parent = omega arith;
  least = λ k p l e. ⊎_elim
      (λ q. carry {b = entry_of t (2 * gap + 1)} (ap (entry_of t) q) refl (ahead_never _))
      (λ q. carry {b = entry_of t (2 * gap + 1)} (ap (entry_of t) q) refl (r (omega arith)))
      (children k gap p e);
}

pub right_least : (t : Tree) (gap : ℕ) → 2 * gap + 1 + 1 < t.len → comes_before (entry_of t (2 * gap + 1 + 1)) (entry_of t (2 * gap + 1)) ≡ true → LeastChild t gap (2 * gap + 1 + 1)
right_least t gap h r = record {
  inside = h;
  under = omega arith;
  parent = omega arith;
  least = λ k p l e. ⊎_elim
      (λ q. carry {b = entry_of t (2 * gap + 1 + 1)} (ap (entry_of t) q) refl (keys.one_way _ _ r))
      (λ q. carry {b = entry_of t (2 * gap + 1 + 1)} (ap (entry_of t) q) refl (ahead_never _))
      (children k gap p e);
}

-- where the least child does not come before the entry in hand, no child does
pub above_least : (t : Tree) (g : Gap) (c : ℕ) → LeastChild t g.at c → comes_before (entry_of t c) g.hand ≡ false → Above t g
above_least t g c ch h k p l e = keys.chain _ _ _ (ch.least k p l e) h

module _ (t u : Tree) (gap : ℕ) (but : OrderedBut t gap) where
  -- the parent at b moves down into the gap
  gap_up : (b : ℕ) → 0 < gap → b ≡ up gap → gap < t.len → Filled t u gap (entry_of t b) → OrderedBut u b
  gap_up b pos is inside fl = record { rest = rest; over = over }
    where
      size : u.len ≡ t.len
      size = fl.size

      rest : (k : ℕ) → 0 < k → k < u.len → (k ≢ b) → (up k ≢ b) → comes_before (entry_of u k) (entry_of u (up k)) ≡ false
      rest k p l nb nu =
          let ng : k ≡ gap → ⊥ = λ e. nu (ap up e ∙ sym is) in
          let lt : k < t.len = omega (arith, size) in
          ⊎_elim
          (λ (e : up k ≡ gap). carry (fl.other k ng) (ap (entry_of u) e ∙ fl.here ∙ ap (entry_of t) is) (but.over k p lt pos e))
          (λ (n : up k ≡ gap → ⊥). carry (fl.other k ng) (fl.other (up k) n) (but.rest k p lt ng n))
          (cases_eq (up k) gap)

      over : (k : ℕ) → 0 < k → k < u.len → 0 < b → up k ≡ b → comes_before (entry_of u k) (entry_of u (up b)) ≡ false
      over k p l pb e =
          let lt : k < t.len = omega (arith, size) in
          let nb : b ≡ gap → ⊥ = λ q. omega arith in
          let nu : up b ≡ gap → ⊥ = λ q. omega arith in
          let lb : b < t.len = omega arith in
          let top : comes_before (entry_of t b) (entry_of t (up b)) ≡ false = but.rest b pb lb nb nu in
          ⊎_elim
          (λ (q : k ≡ gap). carry (ap (entry_of u) q ∙ fl.here) (fl.other (up b) nu) top)
          (λ (n : k ≡ gap → ⊥). carry (fl.other k n) (fl.other (up b) nu)
          (keys.chain _ _ _ (subst (λ (j : ℕ). comes_before (entry_of t k) (entry_of t j) ≡ false) e (but.rest k p lt n (λ q. nb (sym e ∙ q)))) top))
          (cases_eq k gap)

  -- the least child at c moves up into the gap
  gap_down : (c : ℕ) → LeastChild t gap c → Filled t u gap (entry_of t c) → OrderedBut u c
  gap_down c ch fl = record { rest = rest; over = over }
    where
      size : u.len ≡ t.len
      size = fl.size

      par : up c ≡ gap
      par = ch.parent

      pc : 0 < c
      pc = ch.under

      rest : (k : ℕ) → 0 < k → k < u.len → (k ≢ c) → (up k ≢ c) → comes_before (entry_of u k) (entry_of u (up k)) ≡ false
      rest k p l nc nu =
          let lt : k < t.len = omega (arith, size) in
          ⊎_elim
          (λ (e : k ≡ gap).
          let pg : 0 < gap = omega arith in
          let ng : up k ≡ gap → ⊥ = λ q. omega arith in
          carry (ap (entry_of u) e ∙ fl.here) (fl.other (up k) ng ∙ ap (λ j. entry_of t (up j)) e) (but.over c pc ch.inside pg par))
          (λ (ng : k ≡ gap → ⊥).
          ⊎_elim
          (λ (e : up k ≡ gap). carry (fl.other k ng) (ap (entry_of u) e ∙ fl.here) (ch.least k p lt e))
          (λ (n : up k ≡ gap → ⊥). carry (fl.other k ng) (fl.other (up k) n) (but.rest k p lt ng n))
          (cases_eq (up k) gap))
          (cases_eq k gap)

      over : (k : ℕ) → 0 < k → k < u.len → 0 < c → up k ≡ c → comes_before (entry_of u k) (entry_of u (up c)) ≡ false
      over k p l q e =
          let lt : k < t.len = omega (arith, size) in
          let ng : k ≡ gap → ⊥ = λ z. omega arith in
          let nu : up k ≡ gap → ⊥ = λ z. omega arith in
          carry (fl.other k ng) (ap (entry_of u) par ∙ fl.here ∙ sym (ap (entry_of t) e)) (but.rest k p lt ng nu)

  -- the entry in hand fills the gap
  gap_filled : (hand : Entry) → Below t (record { at = gap; hand = hand }) → Above t (record { at = gap; hand = hand }) → Filled t u gap hand → Ordered u
  gap_filled hand low high fl k p l =
      let lt : k < t.len = omega (arith, fl.size) in
      ⊎_elim
      (λ (e : k ≡ gap).
      let pg : 0 < gap = omega arith in
      let nu : up k ≡ gap → ⊥ = λ q. omega arith in
      carry (ap (entry_of u) e ∙ fl.here) (fl.other (up k) nu ∙ ap (λ j. entry_of t (up j)) e) (low pg))
      (λ (ng : k ≡ gap → ⊥).
      ⊎_elim
      (λ (e : up k ≡ gap). carry (fl.other k ng) (ap (entry_of u) e ∙ fl.here) (high k p lt e))
      (λ (n : up k ≡ gap → ⊥). carry (fl.other k ng) (fl.other (up k) n) (but.rest k p lt ng n))
      (cases_eq (up k) gap))
      (cases_eq k gap)

-- what is told of two equal places
pub told_as : (t u : Tree) (o w : Option ℕ) → w ≡ o → ((p : ℕ) → o ≡ Some p → entry_of u p ≡ entry_of t p) → told u w ≡ told t o
told_as t u None w e same = ap (told u) e
told_as t u (Some p) w e same = ap (told u) e ∙ ap (λ (x : Entry). Some (moment_of x.moment)) (same p refl)

-- where an entry was put, and elsewhere
less : {t u : Tree} {gap : ℕ} {e : Entry} → Filled t u gap e → (i : ℕ) → i < u.len → i < t.len
less fl i l = omega (arith, fl.size)

slot_at : {t u : Tree} {gap : ℕ} {e : Entry} → Filled t u gap e → (i : ℕ) → i ≡ gap → slot_of u i ≡ e.slot.number
slot_at {u = u} fl i q = ap (λ (x : Entry). x.slot.number) (ap (entry_of u) q ∙ fl.here)

slot_off : {t u : Tree} {gap : ℕ} {e : Entry} → Filled t u gap e → (i : ℕ) → (i ≢ gap) → slot_of u i ≡ slot_of t i
slot_off fl i n = ap (λ (x : Entry). x.slot.number) (fl.other i n)

-- the index while the entry at b moves into the gap
module _ (t u : Tree) (gap hand b : ℕ) (ix : IndexedBut t gap hand) (lb : b < t.len) (nb : b ≡ gap → ⊥) (fl : Filled t u gap (entry_of t b)) where
  apart_from : (i : ℕ) → i < t.len → (i ≢ gap) → (i ≢ b) → slot_of t i ≢ slot_of t b
  apart_from i l ng n e = n (some_some _ _ _ (ix.places i l ng) (ap (place_of t) e ∙ ix.places b lb nb))

  -- where the slot that moves is found, and another
  moved_to : (k p : ℕ) → k ≡ slot_of t b → place_of u k ≡ Some p → gap ≡ p
  moved_to k p e h = some_some _ _ _ (ap (place_of u) e ∙ fl.placed) h

  found_at : (k p : ℕ) → (k ≢ hand) → (k ≢ slot_of t b) → place_of u k ≡ Some p → place_of t k ≡ Some p
  found_at k p nh n h = sym (fl.others k n) ∙ h

  gap_moved : IndexedBut u b hand
  gap_moved = record {
    inside = omega (arith, fl.size);
    places = λ i l n. ⊎_elim
        (λ (e : i ≡ gap). ap (place_of u) (slot_at fl i e) ∙ fl.placed ∙ ap Some (sym e))
        (λ (ng : i ≡ gap → ⊥). ap (place_of u) (slot_off fl i ng) ∙ fl.others _ (apart_from i (less fl i l) ng n) ∙ ix.places i (less fl i l) ng)
        (cases_eq i gap);
    others = λ i l n q. ⊎_elim
        (λ (e : i ≡ gap). ix.others b lb nb (sym (slot_at fl i e) ∙ q))
        (λ (ng : i ≡ gap → ⊥). ix.others i (less fl i l) ng (sym (slot_off fl i ng) ∙ q))
        (cases_eq i gap);
    below = λ k p nh h. ⊎_elim
        (λ (e : k ≡ slot_of t b). omega (arith, moved_to k p e h, ix.inside, fl.size))
        (λ (n : k ≡ slot_of t b → ⊥). omega (arith, ix.below k p nh (found_at k p nh n h), fl.size))
        (cases_eq k (slot_of t b));
    away = λ k p nh h q. ⊎_elim
        (λ (e : k ≡ slot_of t b). nb (sym q ∙ sym (moved_to k p e h)))
        (λ (n : k ≡ slot_of t b → ⊥). n (sym (ix.found k p nh (found_at k p nh n h)) ∙ ap (slot_of t) q))
        (cases_eq k (slot_of t b));
    found = λ k p nh h. ⊎_elim
        (λ (e : k ≡ slot_of t b). slot_at fl p (sym (moved_to k p e h)) ∙ sym e)
        (λ (n : k ≡ slot_of t b → ⊥).
        let at = found_at k p nh n h in
        slot_off fl p (ix.away k p nh at) ∙ ix.found k p nh at)
        (cases_eq k (slot_of t b));
  }

  -- the same is held but at the slot in hand
  moved_held : (k : ℕ) → (k ≢ hand) → held u k ≡ held t k
  moved_held k nh = ⊎_elim
      (λ (e : k ≡ slot_of t b).
      let here : place_of u k ≡ Some gap = ap (place_of u) e ∙ fl.placed in
      let was : place_of t k ≡ Some b = ap (place_of t) e ∙ ix.places b lb nb in
      ap (told u) here ∙ ap (λ (x : Entry). Some (moment_of x.moment)) fl.here ∙ sym (ap (told t) was))
      (λ (n : k ≡ slot_of t b → ⊥). told_as t u (place_of t k) (place_of u k) (fl.others k n) (λ p h. fl.other p (ix.away k p nh h)))
      (cases_eq k (slot_of t b))

-- the index once the entry in hand fills the gap
module _ (t u : Tree) (gap : ℕ) (e : Entry) (ix : IndexedBut t gap e.slot.number) (fl : Filled t u gap e) where
  gap_places : Places u
  gap_places i l = ⊎_elim
      (λ (q : i ≡ gap). ap (place_of u) (slot_at fl i q) ∙ fl.placed ∙ ap Some (sym q))
      (λ (ng : i ≡ gap → ⊥). ap (place_of u) (slot_off fl i ng) ∙ fl.others _ (ix.others i (less fl i l) ng) ∙ ix.places i (less fl i l) ng)
      (cases_eq i gap)

  gap_found : Found u
  gap_found k p h = ⊎_elim
      (λ (q : k ≡ e.slot.number).
      let at : gap ≡ p = some_some _ _ _ (ap (place_of u) q ∙ fl.placed) h in
      (omega (arith, at, ix.inside, fl.size), slot_at fl p (sym at) ∙ sym q))
      (λ (n : k ≡ e.slot.number → ⊥).
      let was : place_of t k ≡ Some p = sym (fl.others k n) ∙ h in
      (omega (arith, ix.below k p n was, fl.size), slot_off fl p (ix.away k p n was) ∙ ix.found k p n was))
      (cases_eq k e.slot.number)

  closed_held : held u ≡ put (held t) e.slot.number (Some (moment_of e.moment))
  closed_held = fun_ext λ k. ⊎_elim
      (λ (q : k ≡ e.slot.number).
      ap (told u) (ap (place_of u) q ∙ fl.placed)
      ∙ ap (λ (x : Entry). Some (moment_of x.moment)) fl.here
      ∙ sym (cond-true _ (Some (moment_of e.moment)) (held t k) (eq-eqb k e.slot.number q)))
      (λ (n : k ≡ e.slot.number → ⊥).
      told_as t u (place_of t k) (place_of u k) (fl.others k n) (λ p h. fl.other p (ix.away k p n h))
      ∙ sym (cond-false _ (Some (moment_of e.moment)) (held t k) (ne_eqb k e.slot.number n)))
      (cases_eq k e.slot.number)

-- the gap goes up, and down
module _ (t u : Tree) (g : Gap) (gapped : Gapped t g) where
  pub went_up : (b : ℕ) → ParentAfter t g b → Filled t u g.at (entry_of t b) → Went t u g (record { at = b; hand = g.hand })
  went_up b found fl =
      let pos : 0 < g.at = found.below in
      let is : b ≡ up g.at = found.parent in
      let inside : g.at < t.len = gapped.index.inside in
      let lb : b < t.len = omega arith in
      let nb : b ≡ g.at → ⊥ = λ e. omega arith in
      record {
        gapped = record { index = gap_moved t u g.at g.hand.slot.number b gapped.index lb nb fl; order = gap_up t u g.at gapped.order b pos is inside fl };
        hand = refl;
        same = moved_held t u g.at g.hand.slot.number b gapped.index lb nb fl;
      }

  module _ (c : ℕ) (found : ChildBefore t g c) (fl : Filled t u g.at (entry_of t c)) where
    pub went_down : Went t u g (record { at = c; hand = g.hand })
    went_down =
        let ch = found.child in
        let pos : 0 < c = ch.under in
        let par : up c ≡ g.at = ch.parent in
        let nc : c ≡ g.at → ⊥ = λ e. omega arith in
        record {
          gapped = record { index = gap_moved t u g.at g.hand.slot.number c gapped.index ch.inside nc fl; order = gap_down t u g.at gapped.order c ch fl };
          hand = refl;
          same = moved_held t u g.at g.hand.slot.number c gapped.index ch.inside nc fl;
        }

    -- the entry that went up does not come after the one in hand
    pub below_down : Below u (record { at = c; hand = g.hand })
    below_down p = carry {a = g.hand} refl (ap (entry_of u) found.child.parent ∙ fl.here) (keys.one_way _ _ found.sooner)

  -- the entry in hand fills the gap
  pub settled : Below t g → Above t g → Filled t u g.at g.hand → Settled t u g.hand
  settled low high fl = record {
    whole = record {
      places = gap_places t u g.at g.hand gapped.index fl;
      found = gap_found t u g.at g.hand gapped.index fl;
      order = gap_filled t u g.at gapped.order g.hand low high fl;
    };
    held = closed_held t u g.at g.hand gapped.index fl;
  }

-- two ways of the gap are one
pub went_on : (t u v : Tree) (g h i : Gap) → Went t u g h → Went u v h i → Went t v g i
went_on t u v g h i a b = record {
  gapped = b.gapped;
  hand = b.hand ∙ a.hand;
  same = λ k n. b.same k (λ q. n (q ∙ ap (λ (x : Entry). x.slot.number) a.hand)) ∙ a.same k n;
}

-- what is held once a gap that went has been filled
pub settled_went : (t u v : Tree) (g h : Gap) → Went t u g h → Settled u v h.hand → Settled t v g.hand
settled_went t u v g h w s = subst (λ (x : Entry). Settled t v x) w.hand (record {
  whole = s.whole;
  held = s.held ∙ fun_ext λ k. ⊎_elim
      (λ (q : k ≡ h.hand.slot.number).
      cond-true _ (Some (moment_of h.hand.moment)) (held u k) (eq-eqb k h.hand.slot.number q)
      ∙ sym (cond-true _ (Some (moment_of h.hand.moment)) (held t k) (eq-eqb k h.hand.slot.number q)))
      (λ (n : k ≡ h.hand.slot.number → ⊥).
      cond-false _ (Some (moment_of h.hand.moment)) (held u k) (ne_eqb k h.hand.slot.number n)
      ∙ w.same k (λ q. n (q ∙ ap (λ (x : Entry). x.slot.number) (sym w.hand)))
      ∙ sym (cond-false _ (Some (moment_of h.hand.moment)) (held t k) (ne_eqb k h.hand.slot.number n)))
      (cases_eq k h.hand.slot.number);
})

-- what is put where it is already
pub put_same : {A : Type 0} (f : ℕ → A) (k : ℕ) (v : A) → f k ≡ v → put f k v ≡ f
put_same f k v h = fun_ext λ j. ⊎_elim
    (λ (e : j ≡ k). cond-true _ v (f j) (eq-eqb j k e) ∙ sym h ∙ ap f (sym e))
    (λ (n : j ≡ k → ⊥). cond-false _ v (f j) (ne_eqb j k n))
    (cases_eq j k)
