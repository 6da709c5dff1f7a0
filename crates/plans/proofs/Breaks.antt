-- The first of some ticks after a time.
use Rattle.std.proofs.Common.{◌≡◌, ℕ, ◌*◌, ◌≤◌, min, true, false, cond, ◌⊎◌, List, [], ◌∷◌, Some, None, Option, sym, refl, subst, inl, inr, ⊎_elim, arith, ltb-false, ltb-true}
use mathlib.Core.List.Memᴰ
use mathlib.Core.List.{Memᴰ}
use native.Mathlib.Decide.{dec_le}
use Rattle.std.proofs.lemmas.Bool.{cases_Bool}
use Rattle.rules.specs.Basics.{◌∈◌}
use Rattle.rules.specs.Fractions.{Fraction, Before, tick, is_before}
use Rattle.rules.specs.Paths.{first_after, min_with}
use Rattle.plans.specs.Laws.{LeastAfter, FirstAfterLeast}

module _ (t : Fraction) (k : ℕ) (ks : List ℕ) where
  here : Before t (tick k) → (o : Option ℕ) → LeastAfter t ks o → LeastAfter t (k ∷ ks) (Some (min_with k o))
  here b None l =
      (Memᴰ.head refl, b, λ j m c. ⊎_elim (λ (e : j ≡ k). omega arith) (λ (m' : j ∈ ks). absurd (l j m' c)) (Memᴰ.cases_cons m))
  here b (Some i) l = by (dec_le k i)
    where
      by : Dec (k ≤ i) → LeastAfter t (k ∷ ks) (Some (min k i))
      by (yes h) =
          let e : min k i ≡ k = omega arith in
          subst (λ (n : ℕ). LeastAfter t (k ∷ ks) (Some n)) (sym e)
          (Memᴰ.head refl, b, λ j m c. ⊎_elim (λ (q : j ≡ k). omega arith) (λ (m' : j ∈ ks). let z = l.2 j m' c in omega arith) (Memᴰ.cases_cons m))
      by (no h) =
          let e : min k i ≡ i = omega arith in
          subst (λ (n : ℕ). LeastAfter t (k ∷ ks) (Some n)) (sym e)
          (Memᴰ.tail l.0, l.1, λ j m c. ⊎_elim (λ (q : j ≡ k). omega arith) (λ (m' : j ∈ ks). l.2 j m' c) (Memᴰ.cases_cons m))

  not_here : ¬ (Before t (tick k)) → (o : Option ℕ) → LeastAfter t ks o → LeastAfter t (k ∷ ks) o
  not_here n None l = λ j m c. ⊎_elim (λ (e : j ≡ k). n (subst (λ (x : ℕ). Before t (tick x)) e c)) (λ (m' : j ∈ ks). l j m' c) (Memᴰ.cases_cons m)
  not_here n (Some i) l =
      (Memᴰ.tail l.0, l.1, λ j m c. ⊎_elim (λ (e : j ≡ k). absurd (n (subst (λ (x : ℕ). Before t (tick x)) e c))) (λ (m' : j ∈ ks). l.2 j m' c) (Memᴰ.cases_cons m))

pub first_after_least : FirstAfterLeast
first_after_least t [] = λ k m. absurd (Memᴰ.not-nil m)
first_after_least t (k ∷ ks) = by (first_after t ks) (first_after_least t ks) (cases_Bool (is_before t (tick k)))
  where
    by : (o : Option ℕ) → LeastAfter t ks o → (is_before t (tick k) ≡ true) ⊎ (is_before t (tick k) ≡ false) → LeastAfter t (k ∷ ks) (cond (is_before t (tick k)) (Some (min_with k o)) o)
    by o l (inl e) = rw e (here t k ks (ltb-true _ _ e) o l)
    by o l (inr e) = rw e (not_here t k ks (λ b. let z = ltb-false (t.num * 1) (k * t.den) e in omega arith) o l)
