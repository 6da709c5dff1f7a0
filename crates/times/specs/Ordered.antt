-- The orders of times and of moments are total, and equal times have equal fields.
use Rattle.std.specs.Prelude.{◌≡◌, ℕ, ◌*◌, ◌<◌, ◌≤◌, true, ◌&&◌, ◌==◌}
use Rattle.std.specs.Cmp.{IsTotalOrder, IsPartialOrder, nat_cmp_total, bool_cmp_total, both_ways, Equal-is, po, tied_itself, then_total, on_total}
use Rattle.std.specs.declared.cmp.Ordering.TheVariants.{Less, Equal}
use Rattle.std.specs.Ordering.{nat_cmp, is_eq, eq_by_cmp, as_partial_cmp}
use Rattle.std.proofs.Common.{sym, refl, ap, subst, lt-ltb}
use Rattle.std.proofs.lemmas.Bool.{and_parts, eq-eqb, eqb-true}
use Rattle.std.proofs.lemmas.Cmp.{ranked}
use mathlib.Core.HLevel.{is_prop→PathP, Π_prop, →_prop}
use native.Mathlib.Bridge.{le_prop}
use native.Mathlib.Nat.{ℕ_set}
use Rattle.rules.specs.Fractions.{SameTime, Coprime}
use Rattle.rules.proofs.Order.{before_trans}
use Rattle.rules.proofs.Unique.{least_unique}
use Rattle.times.specs.declared.time.Time.{Time}
use Rattle.times.specs.declared.moment.Moment.{Moment}
use Rattle.times.specs.Of.{time_of}
use Rattle.times.specs.Orders.{time_cmp, moment_cmp}

coprime_prop : (m n : ℕ) (x y : Coprime m n) → x ≡ y
coprime_prop m n = Π_prop (λ k. →_prop (→_prop (ℕ_set k 1)))

pub time_≡ : (s t : Time) → s.n ≡ t.n → s.d ≡ t.d → s ≡ t
time_≡ s t e f i = record {
  n = e i;
  d = f i;
  positive = is_prop→PathP (λ j. 0 < f j) (λ j. le_prop) s.positive t.positive i;
  small = is_prop→PathP (λ j. f j ≤ 16000) (λ j. le_prop) s.small t.small i;
  inside = is_prop→PathP (λ j. e j ≤ 50000 * f j) (λ j. le_prop) s.inside t.inside i;
  least = is_prop→PathP (λ j. Coprime (e j) (f j)) (λ j. coprime_prop (e j) (f j)) s.least t.least i;
}

pub same_fields : (s t : Time) → SameTime (time_of s) (time_of t) → (s.n ≡ t.n) × (s.d ≡ t.d)
same_fields s t e =
    let q = least_unique (time_of s) (time_of t) s.positive t.positive e s.least t.least in
    (ap (λ f. f.num) q, ap (λ f. f.den) q)

pub same_time : (s t : Time) → SameTime (time_of s) (time_of t) → s ≡ t
same_time s t e = let p = same_fields s t e in time_≡ s t p.0 p.1

less_of : (a b : ℕ) → nat_cmp a b ≡ Less → a < b
less_of a b e = ranked a b Less (sym e)

less_from : (a b : ℕ) → a < b → nat_cmp a b ≡ Less
less_from a b h = rw (lt-ltb a b h) refl

equal_of : (a b : ℕ) → nat_cmp a b ≡ Equal → a ≡ b
equal_of a b e = ranked a b Equal (sym e)

pub time_total : IsTotalOrder time_cmp
time_total = record {
  antisymm = λ s t. nat_cmp_total.antisymm (s.n * t.d) (t.n * s.d);
  trans = λ s t r p q.
      less_from (s.n * r.d) (r.n * s.d)
      (before_trans (time_of s) (time_of t) (time_of r) s.positive (less_of (s.n * t.d) (t.n * s.d) p) (less_of (t.n * r.d) (r.n * t.d) q));
  congr = λ s t r p. ap (λ x. time_cmp x r) (same_time s t (equal_of (s.n * t.d) (t.n * s.d) p));
}

-- equal fields, and that the order does not tell the two apart
pub time_matches_eq : (s t : Time) → (s.n == t.n && s.d == t.d) ≡ eq_by_cmp time_cmp s t
time_matches_eq s t = both_ways (s.n == t.n && s.d == t.d) (eq_by_cmp time_cmp s t) there back
  where
    there : (s.n == t.n && s.d == t.d) ≡ true → eq_by_cmp time_cmp s t ≡ true
    there h =
        let p = and_parts (s.n == t.n) (s.d == t.d) h in
        let e = time_≡ s t (eqb-true s.n t.n p.0) (eqb-true s.d t.d p.1) in
        subst (λ x. is_eq (time_cmp s x) ≡ true) e (ap is_eq (tied_itself time_total s))

    back : eq_by_cmp time_cmp s t ≡ true → (s.n == t.n && s.d == t.d) ≡ true
    back h =
        let p = same_fields s t (equal_of (s.n * t.d) (t.n * s.d) ((Equal-is (time_cmp s t)).0 h)) in
        rw (eq-eqb s.n t.n p.0, eq-eqb s.d t.d p.1) refl

pub time_partial : IsPartialOrder (λ s t. s.n == t.n && s.d == t.d) (as_partial_cmp time_cmp)
time_partial = po time_total time_matches_eq

pub moment_total : IsTotalOrder moment_cmp
moment_total = then_total (on_total (λ (m : Moment). m.time) time_total) (on_total (λ (m : Moment). m.after) bool_cmp_total)
