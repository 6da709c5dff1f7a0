-- Until its certificate fails, and then too, a present leg is as good as the path.
use Rattle.std.proofs.Common.{◌≡◌, ℕ, suc, ◌*◌, ◌<◌, ◌≤◌, min, Bool, true, false, cond, ◌⊎◌, List, [], ◌∷◌, Some, None, Option, sym, refl, ap, ◌∙◌, subst, inl, inr, ⊎_elim, mul-le-mul_right, arith}
use mathlib.Core.List.Memᴰ
use native.Mathlib.Decide.{dec_le}
use Rattle.rules.specs.Basics.{◌∈◌}
use Rattle.rules.specs.Fractions.{Fraction, Proper, Before, NotAfter, SameTime, tick, whole, is_before}
use Rattle.rules.specs.Stamps.{Stamp, Earlier, NotEarlier, at, side}
use Rattle.rules.specs.Paths.{Axis, Line, Path, Kept, leg, first_after, min_with}
use Rattle.rules.proofs.Order.{not_after_trans}
use Rattle.rules.proofs.Stamped.{false_true, not_earlier_out}
use Rattle.rules.proofs.Ordering.{tests_right}
use Rattle.geometry_laws.proofs.Lists.{not_earlier_is}
use Rattle.geometry_laws.proofs.Paths.{Straight, same_leg, place_straight, whole_mono, start_ok, end_ok}
use Rattle.geometry_laws.proofs.Near.{Alike, alike_self}
use Rattle.geometry_laws.specs.Points.{Point, Upto}
use Rattle.model.specs.Moves.{at_break}
use Rattle.events.specs.Machine.{Reads, Flying}

-- what an option is not, and what it holds
abbrev Holds : {A : Type 0} → (A → Type 0) → Option A → Type 0
Holds P None = ⊥
Holds P (Some x) = P x

pub some_one : {A : Type 0} (x y : A) → Some x ≡ Some y → y ≡ x
some_one x y e = subst (Holds (λ z. z ≡ x)) e refl

abbrev holds : {A : Type 0} → Option A → Bool
holds None = false
holds (Some x) = true

pub none_some : {A : Type 0} (y : A) → None ≡ Some y → ⊥
none_some y e = false_true (ap holds e)

-- ---- the first break after a time
abbrev Least : Fraction → List ℕ → Option ℕ → Type 0
Least t ks None = (j : ℕ) → j ∈ ks → ¬ (Before t (tick j))
Least t ks (Some b) = Before t (tick b) × ((j : ℕ) → j ∈ ks → Before t (tick j) → b ≤ j)

first_least : (t : Fraction) (ks : List ℕ) → Least t ks (first_after t ks)
first_least t [] = λ j m. absurd (Memᴰ.not-nil m)
first_least t (k ∷ ks) = go (is_before t (tick k)) refl (first_after t ks) (first_least t ks)
  where
    go : (x : Bool) → is_before t (tick k) ≡ x → (o : Option ℕ) → Least t ks o → Least t (k ∷ ks) (cond x (Some (min_with k o)) o)
    go true e None l =
        ((tests_right.0 t (tick k)).0 e, λ j m c. ⊎_elim (λ (q : j ≡ k). omega arith) (λ (q : j ∈ ks). absurd (l j q c)) (Memᴰ.cases_cons m))
    go true e (Some b) l =
        (both, λ j m c. ⊎_elim (λ (q : j ≡ k). omega arith) (λ (q : j ∈ ks). let z = l.1 j q c in omega arith) (Memᴰ.cases_cons m))
      where
        both : Before t (tick (min k b))
        both = pick (dec_le k b)
          where
            pick : Dec (k ≤ b) → Before t (tick (min k b))
            pick (yes h) = subst (λ (n : ℕ). Before t (tick n)) (omega arith) ((tests_right.0 t (tick k)).0 e)
            pick (no h) = subst (λ (n : ℕ). Before t (tick n)) (omega arith) l.0
    go false e o l = later o l
      where
        not_k : (j : ℕ) → j ≡ k → Before t (tick j) → ⊥
        not_k j q c = false_true (sym e ∙ (tests_right.0 t (tick k)).1 (subst (λ (n : ℕ). Before t (tick n)) q c))

        later : (o : Option ℕ) → Least t ks o → Least t (k ∷ ks) o
        later None l = λ j m c. ⊎_elim (λ (q : j ≡ k). not_k j q c) (λ (q : j ∈ ks). l j q c) (Memᴰ.cases_cons m)
        later (Some b) l = (l.0, λ j m c. ⊎_elim (λ (q : j ≡ k). absurd (not_k j q c)) (λ (q : j ∈ ks). l.1 j q c) (Memᴰ.cases_cons m))

-- ---- from the time of reading to the next break
after_read : (t : Fraction) (i : ℕ) → Proper t → whole t ≤ i → Before t (tick (suc i))
after_read t i pt h = omega (arith, end_ok t pt, mul-le-mul_right t.den (up (whole t) i h))
  where
    up : (x y : ℕ) → x ≤ y → suc x ≤ suc y
    up x y h = omega arith

straight_to : (w : ℕ) (p : Path) → Kept w p → (t : Fraction) → Proper t → (b : ℕ) → ((j : ℕ) → j ∈ p.breaks → Before t (tick j) → b ≤ j) → (a : Axis) → Straight p a (whole t) b
straight_to w p k t pt b f a i h l = k.turns a i (λ m. let z = f (suc i) m (after_read t i pt h) in omega arith)

straight_on : (w : ℕ) (p : Path) → Kept w p → (t : Fraction) → Proper t → (b : ℕ) → ((j : ℕ) → j ∈ p.breaks → ¬ (Before t (tick j))) → (a : Axis) → Straight p a (whole t) b
straight_on w p k t pt b f a i h l = k.turns a i (λ m. f (suc i) m (after_read t i pt h))

whole_before : (t : Fraction) (b : ℕ) → Proper t → Before t (tick b) → whole t < b
whole_before t b pt h = go (dec_le b (whole t))
  where
    go : Dec (b ≤ whole t) → whole t < b
    go (yes x) = absurd (omega (arith, h, start_ok t, mul-le-mul_right t.den x))
    go (no x) = omega arith

-- not after side 0 of a tick: before it, or at it and at side 0
tick_out : (k : Stamp) (b : ℕ) → NotEarlier (at (tick b)) k → (k.time.num < b * k.time.den) ⊎ ((k.time.num ≡ b * k.time.den) × (k.after ≡ false))
tick_out k b h = go (not_earlier_out k (at (tick b)) h)
  where
    side_0 : (s : Bool) → side s ≤ 0 → s ≡ false
    side_0 false h = refl
    side_0 true h = absurd (omega arith)

    go : (Before k.time (tick b)) ⊎ (SameTime k.time (tick b) × (side k.after ≤ 0)) → (k.time.num < b * k.time.den) ⊎ ((k.time.num ≡ b * k.time.den) × (k.after ≡ false))
    go (inl x) = inl (omega (arith, x))
    go (inr x) = inr (omega (arith, x.0), side_0 k.after x.1)

pub upto_time : (m k : Point) → Upto m k → NotAfter m.stamp.time k.stamp.time
upto_time m k u = go (not_earlier_out m.stamp k.stamp u)
  where
    go : (Before m.stamp.time k.stamp.time) ⊎ (SameTime m.stamp.time k.stamp.time × (side m.stamp.after ≤ side k.stamp.after)) → NotAfter m.stamp.time k.stamp.time
    go (inl x) = omega arith
    go (inr x) = omega (arith, x.0)

pub flying_alike : (w : ℕ) (p : Path) → Kept w p → (l : Axis → Line) (m k : Point) (e : Option Stamp) → Flying p l m.stamp e → Upto m k →
    ((f : Stamp) → e ≡ Some f → NotEarlier f k.stamp) → (a : Axis) → Alike (l a) (leg p k.stamp.time a) k.stamp
flying_alike w p kept l m k e f u h a =
    subst (λ (l : Line). Alike l (leg p k.stamp.time a) k.stamp) (sym (f.reads.lines a)) (go (first_after f.read p.breaks) (first_least f.read p.breaks) f.reads.end)
  where
    t : Fraction
    t = k.stamp.time

    read : NotAfter f.read t
    read = not_after_trans f.read m.stamp.time t m.proper f.since (upto_time m k u)

    begun : whole f.read ≤ whole t
    begun = whole_mono f.read t f.proper k.proper read

    since : whole f.read * t.den ≤ t.num
    since = omega (arith, start_ok t, mul-le-mul_right t.den begun)

    go : (o : Option ℕ) → Least f.read p.breaks o → e ≡ at_break o → Alike (leg p f.read a) (leg p t a) k.stamp
    go None n g =
        alike_self _ _ k.stamp (sym (same_leg p a (whole f.read) (suc (whole t)) t (straight_on w p kept f.read f.proper (suc (whole t)) n a) k.proper since (end_ok t k.proper)))
    go (Some b) n g = by (tick_out k.stamp b (h (at (tick b)) g))
      where
        straight : Straight p a (whole f.read) b
        straight = straight_to w p kept f.read f.proper b n.1 a

        by : (t.num < b * t.den) ⊎ ((t.num ≡ b * t.den) × (k.stamp.after ≡ false)) → Alike (leg p f.read a) (leg p t a) k.stamp
        by (inl x) = alike_self _ _ k.stamp (sym (same_leg p a (whole f.read) b t straight k.proper since x))
        by (inr x) = record {
          values = sym (place_straight p a (whole f.read) b t straight (whole_before f.read b f.proper n.0) k.proper since (omega (arith, x.0)));
          slopes = λ z. absurd (false_true (sym x.1 ∙ z));
        }

-- the present moves on
pub flying_on : (p : Path) (l : Axis → Line) (m n : Point) (e : Option Stamp) → Flying p l m.stamp e → Upto m n → ((f : Stamp) → e ≡ Some f → NotEarlier f n.stamp) → Flying p l n.stamp e
flying_on p l m n e f u h = record {
  read = f.read;
  proper = f.proper;
  since = not_after_trans f.read m.stamp.time n.stamp.time m.proper f.since (upto_time m n u);
  reads = f.reads;
  ahead = λ k g. not_earlier_is k n.stamp (h k g);
}

pub flying_same : (p : Path) (l l' : Axis → Line) (m : Stamp) (e e' : Option Stamp) → ((a : Axis) → l' a ≡ l a) → e' ≡ e → Flying p l m e → Flying p l' m e'
flying_same p l l' m e e' f g h = record {
  read = h.read;
  proper = h.proper;
  since = h.since;
  reads = record { lines = λ a. f a ∙ h.reads.lines a; end = g ∙ h.reads.end };
  ahead = λ k x. h.ahead k (sym g ∙ x);
}

-- a leg that is read at a time ends after it
pub reads_later : (p : Path) (t : Fraction) (l : Axis → Line) (e : Option Stamp) → Reads p t l e → (k : Stamp) → e ≡ Some k → Before t k.time
reads_later p t l e r k x = go (first_after t p.breaks) (first_least t p.breaks) (sym r.end ∙ x)
  where
    go : (o : Option ℕ) → Least t p.breaks o → at_break o ≡ Some k → Before t k.time
    go None n z = absurd (none_some k z)
    go (Some b) n z = subst (λ (k : Stamp). Before t k.time) (sym (some_one (at (tick b)) k z)) n.0

pub reads_proper : (p : Path) (t : Fraction) (l : Axis → Line) (e : Option Stamp) → Reads p t l e → (k : Stamp) → e ≡ Some k → Proper k.time
reads_proper p t l e r k x = go (first_after t p.breaks) (sym r.end ∙ x)
  where
    go : (o : Option ℕ) → at_break o ≡ Some k → Proper k.time
    go None z = absurd (none_some k z)
    go (Some b) z = subst (λ (k : Stamp). Proper k.time) (sym (some_one (at (tick b)) k z)) (omega arith)

-- a craft whose leg is read now
pub flying_now : (p : Path) (l : Axis → Line) (n : Point) (e : Option Stamp) → Reads p n.stamp.time l e → Flying p l n.stamp e
flying_now p l n e r = record {
  read = n.stamp.time;
  proper = n.proper;
  since = omega arith;
  reads = r;
  ahead = λ k x. not_earlier_is k n.stamp (λ h. late k (reads_later p n.stamp.time l e r k x) h);
}
  where
    late : (k : Stamp) → Before n.stamp.time k.time → Earlier k n.stamp → ⊥
    late k b (inl x) = omega arith
    late k b (inr x) = omega (arith, x.0)
