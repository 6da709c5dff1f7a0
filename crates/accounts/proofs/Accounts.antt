-- The accounts hold of every list of calls.
use Rattle.std.proofs.Common.{◌≡◌, ℕ, zero, suc, ◌-◌, ◌/◌, ◌%◌, ◌<◌, ◌≤◌, Bool, true, false, cond, ◌&&◌, eqb, ltb, ◌⊎◌, List, [], ◌∷◌, Some, None, Option, sym, refl, ap, ◌∙◌, inl, inr, arith, ltb-false, ltb-true, le-ltb, lt-ltb, ne_eqb}
use mathlib.Core.List.Memᴰ
use borrow.Author.Tests.{eqb-false, both_ways}
use Rattle.rules.specs.Basics.{◌∈◌, InTurn}
use Rattle.rules.specs.Stamps.{Stamp}
use Rattle.rules.specs.Books.{Book}
use Rattle.rules.specs.Boxes.{Box}
use Rattle.rules.specs.Slots.{leg_slot}
use Rattle.model.specs.Halls.{Hall, State, Certificate, opened, certificate_in, in_hall}
use Rattle.model.specs.Moves.{fired, withdrawn, axis_of, lower_of, higher_of}
use Rattle.model.specs.Calls.{Call, asking, certificate, accepted}
use Rattle.model.specs.Refusals.{refusal}
use Rattle.model.specs.Performing.{unless, perform}
use Rattle.model.specs.Histories.{after, lines_told}
use Rattle.model.specs.Statement.{story, Tells, TellsNumber, IsIn, OfEntered, ExactlyOne}
use Rattle.accounts.specs.Laws.{AccountsHold}
use Rattle.accounts.proofs.Ledgers.{ledger, Told, Turn}
use Rattle.accounts.proofs.Slotted.{wanted, slot_named}
use Rattle.accounts.proofs.Wanted.{none_above, pair_wanted, leg_wanted}
use Rattle.accounts.proofs.Sound.{Sound, Stands, wanted_pair, wanted_leg, story_stands, opened_stands}
use Rattle.accounts.proofs.Agrees.{boxes_are, box_of, box_in_hall}

-- two lines of one number that are no grants are one line
one_end : (ls : List ℕ) → InTurn Turn ls → (x y : ℕ) → x ∈ ls → y ∈ ls → x / 4 ≡ y / 4 → ¬ (x % 4 ≡ 1) → ¬ (y % 4 ≡ 1) → x ≡ y
one_end [] h x y p q e a b = absurd (Memᴰ.not-nil p)
one_end (z ∷ zs) h x y p q e a b = by (λ g k. one_end zs h.1 x y g k e a b) (Memᴰ.cases_cons p) (Memᴰ.cases_cons q)
  where
    by : (x ∈ zs → y ∈ zs → x ≡ y) → (x ≡ z) ⊎ (x ∈ zs) → (y ≡ z) ⊎ (y ∈ zs) → x ≡ y
    by more (inl g) (inl k) = g ∙ sym k
    by more (inl g) (inr k) = absurd (a (ap (λ (w : ℕ). w % 4) g ∙ (h.0 y k (ap (λ (w : ℕ). w / 4) (sym g) ∙ e)).0))
    by more (inr g) (inl k) = absurd (b (ap (λ (w : ℕ). w % 4) k ∙ (h.0 x g (ap (λ (w : ℕ). w / 4) (sym k) ∙ sym e)).0))
    by more (inr g) (inr k) = more g k

-- WHAT THE CERTIFICATE QUESTION TELLS

-- what it tells is what the slot has, of a slot in range
pub asked : (z : State) (s : ℕ) (o : Option Certificate) → (perform (asking s) z).answer.result ≡ accepted (certificate o) → certificate_in s z.hall ≡ o
asked z s o e = by (refusal (asking s) z) e
  where
    by : (r : Option ℕ) → (unless r (asking s) z).answer.result ≡ accepted (certificate o) → certificate_in s z.hall ≡ o
    by None e = cc
    by (Some n) e = let w : ◌≡◌ {A = ℕ} 0 1 = cc in absurd (omega arith)

answered : (z : State) (s : ℕ) → s < 12352 → (perform (asking s) z).answer.result ≡ accepted (certificate (certificate_in s z.hall))
answered z s h = ap (λ (b : Bool). (unless (cond b (Some 7) None) (asking s) z).answer.result) (le-ltb 12351 s (omega arith))

-- a certificate that is told has the slot's number, which is not 0, and its moment
pub record Has (m : Hall) (s n : ℕ) (f : Option Stamp) : Type 0 where
  pub number : m.number s ≡ n
  pub some : 1 ≤ n
  pub fails : m.queue s ≡ f

abbrev made : ℕ → Option Stamp → Certificate
made n f = record { number = n; fails = f }

pub has : (m : Hall) (s n : ℕ) (f : Option Stamp) → certificate_in s m ≡ Some (record { number = n; fails = f }) → Has m s n f
has m s n f e = by (eqb (m.number s) 0) refl e
  where
    by : (b : Bool) → eqb (m.number s) 0 ≡ b → cond b None (Some (made (m.number s) (m.queue s))) ≡ Some (made n f) → Has m s n f
    by true q g = let z : ◌≡◌ {A = ℕ} 0 1 = cc in absurd (omega arith)
    by false q g =
        let u : made (m.number s) (m.queue s) ≡ made n f = cc in
        let v : m.number s ≡ n = ap (λ (k : Certificate). k.number) u in
        let w = eqb-false (m.number s) 0 q in
        record { number = v; some = nonzero n (λ r. w (v ∙ r)); fails = ap (λ (k : Certificate). k.fails) u }
      where
        nonzero : (k : ℕ) → (k ≡ 0 → ⊥) → 1 ≤ k
        nonzero k h = omega arith

-- and so the other way
had : (m : Hall) (s : ℕ) → 1 ≤ m.number s → certificate_in s m ≡ Some (record { number = m.number s; fails = m.queue s })
had m s h = ap (λ (b : Bool). cond b None (Some (made (m.number s) (m.queue s)))) (ne_eqb (m.number s) 0 (λ e. omega arith))

module _ (b : Book) (calls : List Call) where
  -- a slot that has a number is in range
  in_range : Sound (after calls (opened b)).hall (lines_told (story b calls)) → (s : ℕ) → 1 ≤ (after calls (opened b)).hall.number s → s < 12352
  in_range h s p = by (ltb s 12352) refl
    where
      by : (t : Bool) → ltb s 12352 ≡ t → s < 12352
      by true e = ltb-true s 12352 e
      by false e =
          let u = h.good.taken s ∙ none_above (in_hall (after calls (opened b)).hall) h.range s (ltb-false s 12352 e) in
          let v = ltb-false 0 ((after calls (opened b)).hall.number s) u in
          absurd (omega arith)

  told_number : (s n : ℕ) → TellsNumber b calls s n → Has (after calls (opened b)).hall s n ((after calls (opened b)).hall.queue s)
  told_number s n e = let h = has (after calls (opened b)).hall s n e.0 (asked (after calls (opened b)) s (Some (record { number = n; fails = e.0 })) e.1) in record { number = h.number; some = h.some; fails = refl }

  tells : Sound (after calls (opened b)).hall (lines_told (story b calls)) → (s : ℕ) → 1 ≤ (after calls (opened b)).hall.number s →
      Tells b calls s (Some (record { number = (after calls (opened b)).hall.number s; fails = (after calls (opened b)).hall.queue s }))
  tells h s p = answered (after calls (opened b)) s (in_range h s p) ∙ ap (λ (o : Option Certificate). accepted (certificate o)) (had (after calls (opened b)).hall s p)

-- WHICH SLOTS

and_first : (x y z : Bool) → x && y && z ≡ true → x ≡ true
and_first true y z e = refl
and_first false y z e = e

and_second : (x y z : Bool) → x && y && z ≡ true → y ≡ true
and_second true true z e = refl
and_second true false z e = e
and_second false y z e = absurd (both_ways false refl e)

module _ (b : Book) (calls : List Call) (h : Sound (after calls (opened b)).hall (lines_told (story b calls))) where
  is_in : (c : ℕ) → in_hall (after calls (opened b)).hall c ≡ true → IsIn b calls c
  is_in c e = (_, ap (λ (f : ℕ → Option Box). f c) (boxes_are b calls) ∙ box_of (after calls (opened b)).hall c e)

  in_is : (c : ℕ) → IsIn b calls c → in_hall (after calls (opened b)).hall c ≡ true
  in_is c e = box_in_hall (after calls (opened b)).hall c e.0 (ap (λ (f : ℕ → Option Box). f c) (sym (boxes_are b calls)) ∙ e.1)

  craft_range : (c : ℕ) → in_hall (after calls (opened b)).hall c ≡ true → c < 64
  craft_range c e = by (ltb c 64) refl
    where
      by : (t : Bool) → ltb c 64 ≡ t → c < 64
      by true q = ltb-true c 64 q
      by false q = absurd (both_ways _ (h.range c (ltb-false c 64 q)) e)

  slot_of : (s : ℕ) → wanted (in_hall (after calls (opened b)).hall) s ≡ true → OfEntered b calls s
  slot_of s e = by (ltb s 12288) refl
    where
      by : (t : Bool) → ltb s 12288 ≡ t → OfEntered b calls s
      by true q =
          let w : in_hall (after calls (opened b)).hall (lower_of s) && in_hall (after calls (opened b)).hall (higher_of s) && ltb (lower_of s) (higher_of s) ≡ true =
          ap (λ (t : Bool). cond t (in_hall (after calls (opened b)).hall (lower_of s) && in_hall (after calls (opened b)).hall (higher_of s) && ltb (lower_of s) (higher_of s)) (in_hall (after calls (opened b)).hall (s - 12288))) (sym q) ∙ e in
          let lt = wanted_pair (in_hall (after calls (opened b)).hall) s q e in
          inr (axis_of s, lower_of s, higher_of s, lt, is_in (lower_of s) (and_first _ _ _ w), is_in (higher_of s) (and_second _ _ _ w), sym (slot_named s (ltb-true s 12288 q) (weaken (lower_of s) (higher_of s) lt)))
        where
          weaken : (x y : ℕ) → x < y → x ≤ y
          weaken x y g = omega arith
      by false q = inl (s - 12288, is_in (s - 12288) (wanted_leg (in_hall (after calls (opened b)).hall) s q e), back s (ltb-false s 12288 q))
        where
          back : (x : ℕ) → 12288 ≤ x → x ≡ leg_slot (x - 12288)
          back x g = omega arith

  of_slot : (s : ℕ) → OfEntered b calls s → wanted (in_hall (after calls (opened b)).hall) s ≡ true
  of_slot s (inl g) = ap (wanted (in_hall (after calls (opened b)).hall)) g.2 ∙ leg_wanted (in_hall (after calls (opened b)).hall) g.0 ∙ in_is g.0 g.1
  of_slot s (inr g) =
      let ec = in_is g.1 g.4 in
      let ed = in_is g.2 g.5 in
      ap (wanted (in_hall (after calls (opened b)).hall)) g.6
      ∙ pair_wanted (in_hall (after calls (opened b)).hall) g.0 g.1 g.2 (craft_range g.1 ec) (craft_range g.2 ed) (apart g.1 g.2 g.3) ec ed
    where
      apart : (x y : ℕ) → x < y → y ≡ x → ⊥
      apart x y p q = omega arith

pub accounts_hold : AccountsHold
accounts_hold b calls = record {
  last = m.last;
  limit = h.limit;
  grants = told.grants;
  turns = told.turns;
  fates = λ n p q. fate n p (told.covered n p q);
  no_others = told.others;
  known = λ n e. let g = told_number b calls e.0 n e.1 in let k = told.known e.0 in let u = g.number in let v = g.some in (omega arith, omega arith);
  apart = λ s t n e g. let u = told_number b calls s n e in let v = told_number b calls t n g in let w = u.number in let x = u.some in told.apart s t (omega arith) (u.number ∙ sym v.number);
  slots = λ s. (
    λ e. let g = told_number b calls s e.0 e.1 in let u = g.number in let v = g.some in slot_of b calls h.sound s (sym (h.sound.good.taken s) ∙ lt-ltb 0 (m.number s) (omega arith)),
    λ e. (m.number s, (m.queue s, tells b calls h.sound s (ltb-true 0 (m.number s) (h.sound.good.taken s ∙ of_slot b calls h.sound s e)))),
  );
  queued = λ s k. (λ e. full s k e (m.number s) refl, λ e. (has m s e.0 (Some k) (asked (after calls (opened b)) s (Some (record { number = e.0; fails = Some k })) e.1)).fails);
  no_more = λ s p. told.empty s (above s p);
}
  where
    m : Hall
    m = (after calls (opened b)).hall

    ls : List ℕ
    ls = lines_told (story b calls)

    h : Stands (after calls (opened b)).hall (lines_told (story b calls))
    h = story_stands calls (opened b) [] (opened_stands b)

    told : Told (ledger (after calls (opened b)).hall (lines_told (story b calls)))
    told = h.sound.good.told

    above : (s : ℕ) → 12352 ≤ s → (after calls (opened b)).hall.number s ≡ 0
    above s p = let u = ltb-false 0 ((after calls (opened b)).hall.number s) (h.sound.good.taken s ∙ none_above (in_hall (after calls (opened b)).hall) h.sound.range s p) in omega arith

    full : (s : ℕ) (k : Stamp) → (after calls (opened b)).hall.queue s ≡ Some k → (n : ℕ) → (after calls (opened b)).hall.number s ≡ n → (n : ℕ) × Tells b calls s (Some (record { number = n; fails = Some k }))
    full s k e zero q = let u : None ≡ Some k = sym (told.empty s q) ∙ e in let w : ◌≡◌ {A = ℕ} 0 1 = cc in absurd (omega arith)
    full s k e (suc n) q =
        ((after calls (opened b)).hall.number s, tells b calls h.sound s (omega arith) ∙ ap (λ (f : Option Stamp). accepted (certificate (Some (record { number = (after calls (opened b)).hall.number s; fails = f })))) e)

    fate : (n : ℕ) → 1 ≤ n → ((s : ℕ) × ((after calls (opened b)).hall.number s ≡ n)) ⊎ ((fired n ∈ lines_told (story b calls)) ⊎ (withdrawn n ∈ lines_told (story b calls))) →
        ExactlyOne ((s : ℕ) × TellsNumber b calls s n) (fired n ∈ lines_told (story b calls)) (withdrawn n ∈ lines_told (story b calls))
    fate n p (inl s) =
        let u : 1 ≤ (after calls (opened b)).hall.number s.0 = at_least _ n s.1 p in
        inl (
          (s.0, ((after calls (opened b)).hall.queue s.0, tells b calls h.sound s.0 u ∙ ap (λ (k : ℕ). accepted (certificate (Some (record { number = k; fails = (after calls (opened b)).hall.queue s.0 })))) s.1)),
          λ e. let g = told.open_still s.0 u (fired n) e (same_fired n _ s.1) in omega arith,
          λ e. let g = told.open_still s.0 u (withdrawn n) e (same_withdrawn n _ s.1) in omega arith,
        )
      where
        at_least : (x y : ℕ) → x ≡ y → 1 ≤ y → 1 ≤ x
        at_least x y e g = omega arith

        same_fired : (n k : ℕ) → k ≡ n → fired n / 4 ≡ k
        same_fired n k e = omega arith

        same_withdrawn : (n k : ℕ) → k ≡ n → withdrawn n / 4 ≡ k
        same_withdrawn n k e = omega arith
    fate n p (inr (inl f)) = inr (inl (
      λ e. let g = told_number b calls e.0 n e.1 in let u = g.number in let v = g.some in let k = told.open_still e.0 (omega arith) (fired n) f (omega arith) in omega arith,
      f,
      λ e. let g = one_end (lines_told (story b calls)) told.turns (fired n) (withdrawn n) f e (omega arith) (λ q. omega arith) (λ q. omega arith) in omega arith,
    ))
    fate n p (inr (inr w)) = inr (inr (
      λ e. let g = told_number b calls e.0 n e.1 in let u = g.number in let v = g.some in let k = told.open_still e.0 (omega arith) (withdrawn n) w (omega arith) in omega arith,
      λ e. let g = one_end (lines_told (story b calls)) told.turns (fired n) (withdrawn n) e w (omega arith) (λ q. omega arith) (λ q. omega arith) in omega arith,
      w,
    ))
