-- From a hall at rest, the certificates that every history tells.
use Rattle.std.proofs.Common.{◌≡◌, ℕ, ◌<◌, ◌≤◌, true, List, [], is_some, Some, None, Option, sym, refl, ap, ◌∙◌, subst, arith, lt-ltb}
use Rattle.rules.specs.Basics.{the}
use Rattle.rules.specs.Fractions.{Fraction}
use Rattle.rules.specs.Stamps.{Stamp, at}
use Rattle.rules.specs.Paths.{Axis, Kept, leg}
use Rattle.rules.specs.Books.{Book, path, break_after, Lawful}
use Rattle.rules.specs.Boxes.{Box, ends, overlap, Fails}
use Rattle.rules.specs.Slots.{slot, leg_slot}
use Rattle.model.specs.Halls.{Craft, quiet, opened, in_hall}
use Rattle.model.specs.Moves.{at_break}
use Rattle.model.specs.Calls.{Call}
use Rattle.model.specs.Histories.{after, changes, book_changes, book_now, boxes_now, clock_now}
use Rattle.model.specs.Statement.{story, Tells}
use Rattle.accounts.specs.Laws.{box_in, boxes}
use Rattle.accounts.proofs.Wanted.{leg_wanted}
use Rattle.accounts.proofs.Sound.{story_stands, opened_stands}
use Rattle.accounts.proofs.Agrees.{clock_is, book_is, boxes_are}
use Rattle.accounts.proofs.Accounts.{asked, Has, has}
use Rattle.certified.specs.Rest.{AtRest}
use Rattle.certified.specs.Histories.{sky_of, core_of, Rests, CertificatesFromRest}
use Rattle.certified.proofs.Rest.{certificates_rest}

some_box : (o : Option Box) (k : Box) → o ≡ Some k → (is_some o ≡ true) × (the (record { half = λ _. 0 }) o ≡ k)
some_box o k e = (ap is_some e, ap (the (record { half = λ _. 0 })) e)

in_box : (o : Option Craft) → is_some o ≡ true → is_some (box_in o) ≡ true
in_box None e = e
in_box (Some r) e = refl

module _ (b : Book) (law : Lawful b) (calls : List Call) (rest : Rests b calls) where
  kept : (c : ℕ) → Kept b.scale (path (after calls (opened b)).hall.book c)
  kept c = subst (λ (x : Book). Kept b.scale (path x c)) (book_is b calls) (law.paths (book_changes (changes (story b calls))) c)

  at_rest : (t : Fraction) → clock_now (story b calls) ≡ quiet t → AtRest (sky_of (after calls (opened b)).hall) t (core_of (after calls (opened b)).hall)
  at_rest t ck =
      let e = sym (clock_is b calls) ∙ ck in
      let p = rest.time t e in
      certificates_rest b.scale (sky_of (after calls (opened b)).hall) kept t p.0 p.1 (core_of (after calls (opened b)).hall) (rest.rested t e)

  box_now : (c : ℕ) (k : Box) → boxes_now (changes (story b calls)) c ≡ Some k → boxes (after calls (opened b)).hall c ≡ Some k
  box_now c k e = ap (λ (g : ℕ → Option Box). g c) (sym (boxes_are b calls)) ∙ e

  -- a slot that tells a number holds this moment
  held : (s n : ℕ) (f : Option Stamp) → Tells b calls s (Some (record { number = n; fails = f })) → Has (after calls (opened b)).hall s n f
  held s n f e = has (after calls (opened b)).hall s n f (asked (after calls (opened b)) s (Some (record { number = n; fails = f })) e)

  pair_told : (t : Fraction) → clock_now (story b calls) ≡ quiet t → (a : Axis) (c d n : ℕ) (f : Option Stamp) → c < d → Tells b calls (slot a c d) (Some (record { number = n; fails = f })) →
      (k l : Box) → boxes_now (changes (story b calls)) c ≡ Some k → boxes_now (changes (story b calls)) d ≡ Some l →
      let p = ends k a (leg (path (book_now b (changes (story b calls))) c) t a) in let q = ends l a (leg (path (book_now b (changes (story b calls))) d) t a) in
      Fails (overlap p q (at t)) p q (at t) f
  pair_told t ck a c d n f lt e k l ek el =
      let bc = some_box (boxes (after calls (opened b)).hall c) k (box_now c k ek) in
      let bd = some_box (boxes (after calls (opened b)).hall d) l (box_now d l el) in
      let r = (at_rest t ck).pairs (record { lower = c; higher = d }) (record { first = bc.0; second = bd.0; order = lt }) a in
      subst (λ (x : Book). let p = ends k a (leg (path x c) t a) in let q = ends l a (leg (path x d) t a) in Fails (overlap p q (at t)) p q (at t) f) (sym (book_is b calls))
      (of_boxes (after calls (opened b)).hall.book _ k _ l bc.1 bd.1 _ f (held (slot a c d) n f e).fails r)
    where
      of_boxes : (x : Book) (u u' v v' : Box) → u ≡ u' → v ≡ v' → (g g' : Option Stamp) → g ≡ g' →
          (let p = ends u a (leg (path x c) t a) in let q = ends v a (leg (path x d) t a) in Fails (overlap p q (at t)) p q (at t) g) →
          let p = ends u' a (leg (path x c) t a) in let q = ends v' a (leg (path x d) t a) in Fails (overlap p q (at t)) p q (at t) g'
      of_boxes x u u' v v' e1 e2 g g' e3 h =
          subst (λ (o : Option Stamp). let p = ends u' a (leg (path x c) t a) in let q = ends v' a (leg (path x d) t a) in Fails (overlap p q (at t)) p q (at t) o) e3
          (subst (λ (w : Box). let p = ends u' a (leg (path x c) t a) in let q = ends w a (leg (path x d) t a) in Fails (overlap p q (at t)) p q (at t) g) e2
          (subst (λ (w : Box). let p = ends w a (leg (path x c) t a) in let q = ends v a (leg (path x d) t a) in Fails (overlap p q (at t)) p q (at t) g) e1 h))

  -- the craft of a leg slot that tells a number is entered
  told_in : (c n : ℕ) (f : Option Stamp) → Tells b calls (leg_slot c) (Some (record { number = n; fails = f })) → in_hall (after calls (opened b)).hall c ≡ true
  told_in c n f e =
      let h = held (leg_slot c) n f e in
      let s = story_stands calls (opened b) [] (opened_stands b) in
      sym (leg_wanted (in_hall (after calls (opened b)).hall) c) ∙ sym (s.sound.good.taken (leg_slot c)) ∙ lt-ltb 0 ((after calls (opened b)).hall.number (leg_slot c)) (some _ n h.number h.some)
    where
      some : (x y : ℕ) → x ≡ y → 1 ≤ y → 0 < x
      some x y p q = omega arith

  leg_told : (t : Fraction) → clock_now (story b calls) ≡ quiet t → (c n : ℕ) (f : Option Stamp) → Tells b calls (leg_slot c) (Some (record { number = n; fails = f })) →
      f ≡ at_break (break_after (book_now b (changes (story b calls))) c t)
  leg_told t ck c n f e =
      sym (held (leg_slot c) n f e).fails
      ∙ (at_rest t ck).legs c (in_box ((after calls (opened b)).hall.craft c) (told_in c n f e))
      ∙ ap (λ (x : Book). at_break (break_after x c t)) (sym (book_is b calls))

pub certificates_from_rest : CertificatesFromRest
certificates_from_rest b law calls rest = record { pairs = pair_told b law calls rest; legs = leg_told b law calls rest }
