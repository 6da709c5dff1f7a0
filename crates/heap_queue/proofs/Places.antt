-- Opening a gap: a place for a slot, or the place that a slot leaves.
use Rattle.std.proofs.Common.{◌≡◌, ℕ, zero, suc, ◌+◌, ◌-◌, ◌<◌, ◌≤◌, false, Some, None, Option, List, ◌∷◌, map, length, eqb, get_or, replicate, set, sym, refl, ap, ◌∙◌, subst, ⊎_elim, arith, get_or-set_other, get_or-set_same}
use Rattle.std.proofs.Math.Path.{fun_ext}
use Rattle.std.proofs.lemmas.Bool.{eqb-true, eq-eqb, ne_eqb, cases_eq, cond-true, cond-false}
use Rattle.std.specs.List.{All, range_with_len}
use Rattle.std.proofs.lemmas.List.Elements.{All-contains}
use Rattle.std.proofs.lemmas.List.FromFn.{get_or-map-range_with_len, length-map-range_with_len}
use Rattle.std.proofs.lemmas.Map.Keys.{IsDistinct-from_apart}
use Rattle.std.proofs.lemmas.Map.Steps.{length-le_from_distinct_below}
use Rattle.std.proofs.lemmas.Map.Views.{Contains-from_any}
use Rattle.rules.specs.Basics.{put}
use Rattle.rules.specs.Stamps.{Stamp}
use Rattle.queues.proofs.Firsts.{some_none, some_some}
use Rattle.queues.specs.declared.entry.Entry.{Entry}
use Rattle.heap_queue.specs.declared.tree.Tree.{Tree}
use Rattle.queues.specs.Entries.{comes_before}
use Rattle.queues.specs.EntryOrder.{keys}
use Rattle.heap_queue.specs.Heaps.{nothing, up, place_in, entry_of, slot_of, place_of, told, held, Empty, Whole, OrderedBut, Seated, Vacant}
use Rattle.heap_queue.specs.Gaps.{carry, told_as}

-- a heap without entries
none_at : (n k m : ℕ) → get_or (replicate n m) k m ≡ m
none_at zero k m = refl
none_at (suc n) zero m = refl
none_at (suc n) (suc k) m = none_at n k m

pub empty : (t : Tree) → t.len ≡ 0 → t.place ≡ replicate 12352 65535 → Empty t
empty t size place = record {
  whole = record {
    places = λ i l. absurd (omega arith);
    found = λ k p h. some_none _ p (none k) h;
    order = λ k p l. absurd (omega arith);
  };
  nothing = λ k. ap (told t) (none k);
}
  where
    none : (k : ℕ) → place_of t k ≡ None
    none k = ap (λ (l : List ℕ). place_in (get_or l k 65535)) place ∙ ap place_in (none_at 12352 k 65535)

-- the slots in the heap
abbrev stood : Tree → List ℕ
stood t = map (slot_of t) (range_with_len 0 t.len)

module _ (t : Tree) (whole : Whole t) where
  -- two places of one slot are one
  one_place : (i j : ℕ) → i < t.len → j < t.len → slot_of t i ≡ slot_of t j → i ≡ j
  one_place i j li lj e = some_some _ _ _ (whole.places i li) (ap (place_of t) e ∙ whole.places j lj)

  module _ (slot : ℕ) (small : slot < 12352) (none : place_of t slot ≡ None) where
    at : (i d : ℕ) → i < t.len → get_or (stood t) i d ≡ slot_of t i
    at i d l = get_or-map-range_with_len (slot_of t) 0 t.len i i d l (omega arith)

    long : length (stood t) ≡ t.len
    long = length-map-range_with_len (slot_of t) 0 t.len

    below : All (λ q. q < 12352) (slot ∷ stood t)
    below zero d l = small
    below (suc i) d l = let e = entry_of t i in subst (λ (q : ℕ). q < 12352) (sym (at i d (omega (arith, long)))) e.slot.inside

    unlike : (i j d : ℕ) → i < j → j < length (slot ∷ stood t) → eqb (get_or (slot ∷ stood t) i d) (get_or (slot ∷ stood t) j d) ≡ false
    unlike i zero d o l = absurd (omega arith)
    unlike zero (suc j) d o l =
        let lj : j < t.len = omega (arith, long) in
        ne_eqb slot (get_or (stood t) j d) (λ e. some_none (place_of t slot) j none (ap (place_of t) (e ∙ at j d lj) ∙ whole.places j lj))
    unlike (suc i) (suc j) d o l =
        let li : i < t.len = omega (arith, long) in
        let lj : j < t.len = omega (arith, long) in
        ne_eqb (get_or (stood t) i d) (get_or (stood t) j d) (λ e. omega (arith, one_place i j li lj (sym (at i d li) ∙ e ∙ at j d lj)))

    -- a slot without a place stands nowhere, so that there is room
    pub room : t.len < 12352
    room = omega (
      arith,
      long,
      length-le_from_distinct_below (slot ∷ stood t) 12352 (IsDistinct-from_apart eqb (slot ∷ stood t) unlike)
          (λ q h. All-contains (λ x. x < 12352) (slot ∷ stood t) q below (Contains-from_any eqb-true q (slot ∷ stood t) h)),
    )

  -- the same entries with a gap at a place, or with the last places cut off
  module _ (u : Tree) (heap : u.heap ≡ t.heap) where
    same : (i : ℕ) → entry_of u i ≡ entry_of t i
    same i = ap (λ (l : List Entry). get_or l i nothing) heap

    slots : (i : ℕ) → slot_of u i ≡ slot_of t i
    slots i = ap (λ (x : Entry). x.slot.number) (same i)

    cut : u.len ≤ t.len → (k : ℕ) → 0 < k → k < u.len → comes_before (entry_of u k) (entry_of u (up k)) ≡ false
    cut size k p l = carry (same k) (same (up k)) (whole.order k p (omega arith))

    opened : (gap : ℕ) → u.len ≤ t.len → gap < t.len → OrderedBut u gap
    opened gap size inside = record {
      rest = λ k p l n m. cut size k p l;
      over = λ k p l pos e. carry (same k) (same (up gap))
          (keys.chain _ _ _ (subst (λ (j : ℕ). comes_before (entry_of t k) (entry_of t j) ≡ false) e (whole.order k p (omega arith))) (whole.order gap pos inside));
    }

    module _ (slot : ℕ) (place : u.place ≡ t.place) (none : place_of t slot ≡ None) (size : u.len ≡ t.len + 1) where
      kept : (k : ℕ) → place_of u k ≡ place_of t k
      kept k = ap (λ (l : List ℕ). place_in (get_or l k 65535)) place

      -- behind the last place
      pub seat_new : Seated t u slot t.len
      seat_new = record {
        index = record {
          inside = omega (arith, size);
          places = λ i l n. kept (slot_of u i) ∙ ap (place_of t) (slots i) ∙ whole.places i (omega (arith, size));
          others = λ i l n e. some_none (place_of t slot) i none (sym (ap (place_of t) (sym (slots i) ∙ e)) ∙ whole.places i (omega (arith, size)));
          below = λ k p n h. omega (arith, (whole.found k p (sym (kept k) ∙ h)).0, size);
          away = λ k p n h e. omega (arith, (whole.found k p (sym (kept k) ∙ h)).0, e);
          found = λ k p n h. slots p ∙ (whole.found k p (sym (kept k) ∙ h)).1;
        };
        order = record {
          rest = λ k p l n m. carry (same k) (same (up k)) (whole.order k p (omega (arith, size)));
          over = λ k p l pos e. absurd (omega (arith, size));
        };
        held = fun_ext λ k. told_as t u (place_of t k) (place_of u k) (kept k) (λ p h. same p);
      }

  module _ (slot at : ℕ) (some : place_of t slot ≡ Some at) where
    pub inside : at < t.len
    inside = (whole.found slot at some).0

    stands : slot_of t at ≡ slot
    stands = (whole.found slot at some).1

    elsewhere : (i : ℕ) → i < t.len → (i ≡ at → ⊥) → slot_of t i ≡ slot → ⊥
    elsewhere i l n e = n (some_some _ _ _ (whole.places i l) (ap (place_of t) e ∙ some))

    -- at its own place
    pub seat_old : Seated t t slot at
    seat_old = record {
      index = record {
        inside = inside;
        places = λ i l n. whole.places i l;
        others = elsewhere;
        below = λ k p n h. (whole.found k p h).0;
        away = λ k p n h e. n (sym (whole.found k p h).1 ∙ ap (slot_of t) e ∙ stands);
        found = λ k p n h. (whole.found k p h).1;
      };
      order = opened t refl at (omega arith) inside;
      held = refl;
    }

    -- what is held once the slot is taken out
    pub vacate_held : (h : ℕ → Option Stamp) (x : ℕ) → slot < 12352 → x ≡ slot → ((k : ℕ) → h k ≡ told t (place_in (get_or (set t.place x 65535) k 65535))) → h ≡ put (held t) slot None
    vacate_held h x small same is = fun_ext λ k. is k ∙ ap (λ (j : ℕ). told t (place_in (get_or (set t.place j 65535) k 65535))) same ∙ ⊎_elim
        (λ (e : k ≡ slot).
        ap (λ (j : ℕ). told t (place_in (get_or (set t.place slot 65535) j 65535))) e
        ∙ ap (λ (p : ℕ). told t (place_in p)) (get_or-set_same t.place slot 65535 65535 (omega (arith, t.size)))
        ∙ sym (cond-true _ None (held t k) (eq-eqb k slot e)))
        (λ (n : k ≡ slot → ⊥).
        ap (λ (p : ℕ). told t (place_in p)) (get_or-set_other t.place slot k 65535 65535 n)
        ∙ sym (cond-false _ None (held t k) (ne_eqb k slot n)))
        (cases_eq k slot)

    -- u: the tables once the slot is taken out
    module _ (u : Tree) (heap : u.heap ≡ t.heap) (place : u.place ≡ set t.place slot 65535) (small : slot < 12352) (size : u.len ≡ t.len - 1) where
      gone : place_of u slot ≡ None
      gone = ap (λ (l : List ℕ). place_in (get_or l slot 65535)) place ∙ ap place_in (get_or-set_same t.place slot 65535 65535 (omega (arith, t.size)))

      others : (k : ℕ) → (k ≡ slot → ⊥) → place_of u k ≡ place_of t k
      others k n = ap (λ (l : List ℕ). place_in (get_or l k 65535)) place ∙ ap place_in (get_or-set_other t.place slot k 65535 65535 n)

      not_slot : (k p : ℕ) → place_of u k ≡ Some p → k ≡ slot → ⊥
      not_slot k p h e = some_none (place_of u k) p (ap (place_of u) e ∙ gone) h

      was : (k p : ℕ) → place_of u k ≡ Some p → place_of t k ≡ Some p
      was k p h = sym (others k (not_slot k p h)) ∙ h

      less : (i : ℕ) → i < u.len → i < t.len
      less i l = omega (arith, size)

      end_in : u.len < t.len
      end_in = omega (arith, inside, size)

      still : (i : ℕ) → i < u.len → (i ≡ at → ⊥) → place_of u (slot_of u i) ≡ Some i
      still i l n = ap (place_of u) (slots u heap i) ∙ others _ (elsewhere i (less i l) n) ∙ whole.places i (less i l)

      there : (k p : ℕ) → place_of u k ≡ Some p → slot_of u p ≡ k
      there k p h = slots u heap p ∙ (whole.found k p (was k p h)).1

      -- it stood last
      pub vacate_last : at ≡ u.len → Whole u
      vacate_last e = record {
        places = λ i l. still i l (λ q. omega arith);
        found = λ k p h.
            let n : p ≡ at → ⊥ = λ q. not_slot k p h (sym (whole.found k p (was k p h)).1 ∙ ap (slot_of t) q ∙ stands) in
            (omega (arith, (whole.found k p (was k p h)).0, size), there k p h);
        order = cut u heap (omega (arith, size));
      }

      -- it did not: the last entry is to fill its place
      module _ (ne : at ≡ u.len → ⊥) where
        last_other : slot_of t u.len ≡ slot → ⊥
        last_other = elsewhere u.len end_in (λ q. ne (sym q))

        last_place : place_of u (slot_of t u.len) ≡ Some u.len
        last_place = others (slot_of t u.len) last_other ∙ whole.places u.len end_in

        inner : Vacant u (record { at = at; hand = entry_of u u.len })
        inner = record {
          gapped = record {
            index = record {
              inside = omega (arith, inside, size);
              places = λ i l n. still i l n;
              others = λ i l n e. omega (arith, one_place i u.len (less i l) end_in (sym (slots u heap i) ∙ e ∙ slots u heap u.len));
              below = λ k p n h.
                  let m : p ≡ u.len → ⊥ = λ q. n (sym (there k p h) ∙ ap (slot_of u) q) in
                  omega (arith, (whole.found k p (was k p h)).0, size);
              away = λ k p n h e. not_slot k p h (sym (there k p h) ∙ ap (slot_of u) e ∙ slots u heap at ∙ stands);
              found = λ k p n h. there k p h;
            };
            order = opened u heap at (omega (arith, size)) inside;
          };
          last = ap (told u) (ap (place_of u) (slots u heap u.len) ∙ last_place);
        }

        pub vacate_inner : (e : Entry) → e ≡ entry_of u u.len → Vacant u (record { at = at; hand = e })
        vacate_inner e h = subst (λ (x : Entry). Vacant u (record { at = at; hand = x })) (sym h) inner
