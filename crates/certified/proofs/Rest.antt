-- At a quiet clock the present legs are those of the paths, and so each certificate fails when the paths say.
use Rattle.std.proofs.Common.{◌≡◌, ℕ, suc, ◌<◌, ◌≤◌, min, Bool, true, false, cond, List, [], ◌∷◌, Some, None, Option, sym, refl, ap, ◌∙◌, subst, inl, inr, ⊎_elim, mul-le-mul_right, arith}
use mathlib.Core.List.Memᴰ
use native.Mathlib.Decide.{dec_le}
use Rattle.rules.specs.Basics.{◌∈◌}
use Rattle.rules.specs.Fractions.{Fraction, Proper, Before, NotAfter, tick, whole, is_before}
use Rattle.rules.specs.Stamps.{Stamp, at, Earlier, is_earlier}
use Rattle.rules.specs.Paths.{Axis, Line, Path, Kept, leg, first_after, min_with}
use Rattle.rules.specs.Boxes.{Ends, ends, overlap, wrong, Fails}
use Rattle.rules.proofs.Order.{not_after_before}
use Rattle.rules.proofs.Ordering.{tests_right}
use Rattle.rules.proofs.Stamped.{false_true}
use Rattle.geometry_laws.proofs.Lists.{is_earlier_so, not_earlier_is, not_earlier_self}
use Rattle.geometry_laws.proofs.Paths.{kept_straight, same_leg, whole_mono, start_ok, end_ok}
use Rattle.model.specs.Moves.{at_break}
use Rattle.events.specs.Machine.{flies, box_of, Pair, In, Flying}
use Rattle.certified.specs.Rest.{ends_at, CertificatesRest}

-- THE FIRST BREAK AFTER A TIME

-- it is one of them, after the time, and the least of those; or there is none
abbrev First : Fraction → List ℕ → Option ℕ → Type 0
First t ks None = (j : ℕ) → j ∈ ks → Before t (tick j) → ⊥
First t ks (Some b) = (b ∈ ks) × Before t (tick b) × ((j : ℕ) → j ∈ ks → Before t (tick j) → b ≤ j)

first_is : (t : Fraction) (ks : List ℕ) → First t ks (first_after t ks)
first_is t [] = λ j m c. Memᴰ.not-nil m
first_is t (k ∷ ks) = by (is_before t (tick k)) refl (first_after t ks) (first_is t ks)
  where
    by : (x : Bool) → is_before t (tick k) ≡ x → (o : Option ℕ) → First t ks o → First t (k ∷ ks) (cond x (Some (min_with k o)) o)
    by true e None f = (Memᴰ.head refl, (tests_right.0 t (tick k)).0 e, λ j m c. ⊎_elim (λ (q : j ≡ k). omega arith) (λ (q : j ∈ ks). absurd (f j q c)) (Memᴰ.cases_cons m))
    by true e (Some b) f = pick (dec_le k b)
      where
        pick : Dec (k ≤ b) → (min k b ∈ (k ∷ ks)) × Before t (tick (min k b)) × ((j : ℕ) → j ∈ (k ∷ ks) → Before t (tick j) → min k b ≤ j)
        pick (yes h) = let z : min k b ≡ k = omega arith in (
          Memᴰ.head z,
          subst (λ (n : ℕ). Before t (tick n)) (sym z) ((tests_right.0 t (tick k)).0 e),
          λ j m c. ⊎_elim (λ (q : j ≡ k). omega arith) (λ (q : j ∈ ks). let u = f.2 j q c in omega arith) (Memᴰ.cases_cons m),
        )
        pick (no h) = let z : b ≡ min k b = omega arith in (
          subst (λ (n : ℕ). n ∈ (k ∷ ks)) z (Memᴰ.tail f.0),
          subst (λ (n : ℕ). Before t (tick n)) z f.1,
          λ j m c. ⊎_elim (λ (q : j ≡ k). omega arith) (λ (q : j ∈ ks). let u = f.2 j q c in omega arith) (Memᴰ.cases_cons m),
        )
    by false e o f = later o f
      where
        not_k : (j : ℕ) → j ≡ k → Before t (tick j) → ⊥
        not_k j q c = false_true (sym e ∙ (tests_right.0 t (tick k)).1 (subst (λ (n : ℕ). Before t (tick n)) q c))

        later : (o : Option ℕ) → First t ks o → First t (k ∷ ks) o
        later None l = λ j m c. ⊎_elim (λ (q : j ≡ k). not_k j q c) (λ (q : j ∈ ks). l j q c) (Memᴰ.cases_cons m)
        later (Some b) l = (Memᴰ.tail l.0, l.1, λ j m c. ⊎_elim (λ (q : j ≡ k). absurd (not_k j q c)) (λ (q : j ∈ ks). l.2 j q c) (Memᴰ.cases_cons m))

first_one : (t : Fraction) (ks : List ℕ) (o p : Option ℕ) → First t ks o → First t ks p → o ≡ p
first_one t ks None None f g = refl
first_one t ks None (Some b) f g = absurd (f b g.0 g.1)
first_one t ks (Some b) None f g = absurd (g b f.0 f.1)
first_one t ks (Some b) (Some c) f g = ap Some (same b c (f.2 c g.0 g.1) (g.2 b f.0 f.1))
  where
    same : (x y : ℕ) → x ≤ y → y ≤ x → x ≡ y
    same x y p q = omega arith

-- what is first after a time is first after a later one before it
first_later : (s t : Fraction) → Proper s → Proper t → NotAfter s t → (ks : List ℕ) (o : Option ℕ) → First s ks o → ((b : ℕ) → o ≡ Some b → Before t (tick b)) → First t ks o
first_later s t ps pt h ks None f n = λ j m c. f j m (not_after_before s t (tick j) ps pt h c)
first_later s t ps pt h ks (Some b) f n = (f.0, n b refl, λ j m c. f.2 j m (not_after_before s t (tick j) ps pt h c))

-- THE PRESENT LEG

-- a leg certificate that fails after side 0 of t names a break after t
after_clock : (t : Fraction) (b : ℕ) → is_earlier (at t) (at (tick b)) ≡ true → Before t (tick b)
after_clock t b e = by (is_earlier_so (at t) (at (tick b)) e)
  where
    by : Earlier (at t) (at (tick b)) → Before t (tick b)
    by (inl h) = h
    by (inr h) = absurd (omega (arith, h.1))

module _ (w : ℕ) (p : Path) (kept : Kept w p) (t : Fraction) (pt : Proper t) (l : Axis → Line) (e : Option Stamp) (f : Flying p l (at t) e) (quiet : (k : Stamp) → e ≡ Some k → is_earlier (at t) k ≡ true) where
  ahead : (b : ℕ) → first_after f.read p.breaks ≡ Some b → Before t (tick b)
  ahead b q = after_clock t b (quiet (at (tick b)) (f.reads.end ∙ ap at_break q))

  pub break_now : e ≡ at_break (first_after t p.breaks)
  break_now = f.reads.end ∙ ap at_break (first_one t p.breaks (first_after f.read p.breaks) (first_after t p.breaks)
      (first_later f.read t f.proper pt f.since p.breaks (first_after f.read p.breaks) (first_is f.read p.breaks) ahead)
      (first_is t p.breaks))

  -- no break lies after the reading and up to t
  none_between : (i : ℕ) → whole f.read < i → i < suc (whole t) → i ∈ p.breaks → ⊥
  none_between i h g m = by (first_after f.read p.breaks) refl (first_is f.read p.breaks)
    where
      up : (x y : ℕ) → x < y → suc x ≤ y
      up x y z = z

      read_before : Before f.read (tick i)
      read_before = omega (arith, end_ok f.read f.proper, mul-le-mul_right f.read.den (up (whole f.read) i h))

      by : (o : Option ℕ) → first_after f.read p.breaks ≡ o → First f.read p.breaks o → ⊥
      by None q n = n i m read_before
      by (Some b) q n =
          let u : b ≤ i = n.2 i m read_before in
          let v : b ≤ whole t = omega arith in
          omega (arith, ahead b q, start_ok t, mul-le-mul_right t.den v)

  pub leg_now : (a : Axis) → l a ≡ leg p t a
  leg_now a =
      let s = kept_straight w p kept a (whole f.read) (suc (whole t)) none_between in
      let begun = whole_mono f.read t f.proper pt f.since in
      f.reads.lines a ∙ sym (same_leg p a (whole f.read) (suc (whole t)) t s pt (omega (arith, start_ok t, mul-le-mul_right t.den begun)) (end_ok t pt))

-- THE CERTIFICATES

-- a bit is right at the clock, so it is as the two overlap
right_bit : (bit : Bool) (p q : Ends) (t : Fraction) → Proper t → NotAfter t (tick 50000) → (f : Option Stamp) → Fails bit p q (at t) f → ((k : Stamp) → f ≡ Some k → is_earlier (at t) k ≡ true) → bit ≡ overlap p q (at t)
right_bit bit p q t pt it f c quiet = same bit (overlap p q (at t)) (by f c quiet)
  where
    self : is_earlier (at t) (at t) ≡ false
    self = not_earlier_is (at t) (at t) (not_earlier_self (at t))

    by : (f : Option Stamp) → Fails bit p q (at t) f → ((k : Stamp) → f ≡ Some k → is_earlier (at t) k ≡ true) → wrong bit (overlap p q (at t)) ≡ false
    by None c n = c (at t) pt it self
    by (Some k) c n = c.right_before (at t) pt self (n k refl)

    same : (x y : Bool) → wrong x y ≡ false → x ≡ y
    same true true e = refl
    same true false e = absurd (false_true (sym e))
    same false true e = absurd (false_true (sym e))
    same false false e = refl

pub certificates_rest : CertificatesRest
certificates_rest w y law t pt it s rest = record {
  pairs = λ i h a. pair i h a;
  legs = λ c h. break_now w (y.path c) (law c) t pt (s.leg c) (s.turn c) (rest.sound.legs c h) (rest.quiet.legs c h);
}
  where
    line : (c : ℕ) → flies y c ≡ true → (a : Axis) → s.leg c a ≡ leg (y.path c) t a
    line c h = leg_now w (y.path c) (law c) t pt (s.leg c) (s.turn c) (rest.sound.legs c h) (rest.quiet.legs c h)

    pair : (i : Pair) → In y i → (a : Axis) → let p = ends_at y t a i.lower in let q = ends_at y t a i.higher in Fails (overlap p q (at t)) p q (at t) (s.fails i a)
    pair i h a =
        let p : ends (box_of y i.lower) a (s.leg i.lower a) ≡ ends_at y t a i.lower = ap (ends (box_of y i.lower) a) (line i.lower h.first a) in
        let q : ends (box_of y i.higher) a (s.leg i.higher a) ≡ ends_at y t a i.higher = ap (ends (box_of y i.higher) a) (line i.higher h.second a) in
        let c = rest.sound.bits i h a in
        let b = right_bit (s.bit i a) (ends (box_of y i.lower) a (s.leg i.lower a)) (ends (box_of y i.higher) a (s.leg i.higher a)) t pt it (s.fails i a) c (rest.quiet.bits i h a) in
        let moved : Fails (overlap (ends (box_of y i.lower) a (s.leg i.lower a)) (ends (box_of y i.higher) a (s.leg i.higher a)) (at t)) (ends (box_of y i.lower) a (s.leg i.lower a)) (ends (box_of y i.higher) a (s.leg i.higher a)) (at t) (s.fails i a) =
        subst (λ (x : Bool). Fails x (ends (box_of y i.lower) a (s.leg i.lower a)) (ends (box_of y i.higher) a (s.leg i.higher a)) (at t) (s.fails i a)) b c in
        both (ends (box_of y i.lower) a (s.leg i.lower a)) (ends_at y t a i.lower) (ends (box_of y i.higher) a (s.leg i.higher a)) (ends_at y t a i.higher) p q (s.fails i a) moved
      where
        both : (p p' q q' : Ends) → p ≡ p' → q ≡ q' → (f : Option Stamp) → Fails (overlap p q (at t)) p q (at t) f → Fails (overlap p' q' (at t)) p' q' (at t) f
        both p p' q q' e g f c = subst (λ (z : Ends). Fails (overlap p' z (at t)) p' z (at t) f) g (subst (λ (z : Ends). Fails (overlap z q (at t)) z q (at t) f) e c)
