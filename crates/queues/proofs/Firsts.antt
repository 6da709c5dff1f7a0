-- The first answer: the scan finds the least moment, and that is unique.
use Rattle.std.proofs.Common.{◌≡◌, ℕ, zero, suc, ◌<◌, ◌≤◌, Bool, true, false, cond, Some, None, Decides, Option, sym, refl, ap, subst, ⊎_elim, arith}
use Rattle.std.proofs.lemmas.Bool.{cases_lt, cases_Bool, both_ways}
use Rattle.rules.specs.Fractions.{Proper}
use Rattle.rules.specs.Stamps.{Stamp, NotEarlier, is_earlier}
use Rattle.rules.specs.Slots.{Queue, First, first_below, sooner}
use Rattle.rules.proofs.Ordering.{tests_right}
use Rattle.rules.proofs.Stamped.{asym, not_earlier_trans}
use Rattle.queues.specs.Meanings.{soonest, is_nothing}
use Rattle.queues.specs.Laws.{Held, SoonestFirst, FirstsRight, EmptyRight}

-- the tests of order, as tests
pub not_earlier : (m k : Stamp) → is_earlier m k ≡ false → NotEarlier m k
not_earlier m k h e = both_ways (is_earlier m k) h ((tests_right.1 m k).1 e)

pub not_earlier_test : (m k : Stamp) → NotEarlier m k → is_earlier m k ≡ false
not_earlier_test m k h = ⊎_elim (λ t. absurd (h ((tests_right.1 m k).0 t))) (λ f. f) (cases_Bool (is_earlier m k))

-- not earlier than a moment that is not earlier than i
pub not_earlier_chain : (i j k : Stamp) → Proper i.time → Proper j.time → Proper k.time → is_earlier j i ≡ false → is_earlier k j ≡ false → is_earlier k i ≡ false
not_earlier_chain i j k pi pj pk h g =
    not_earlier_test k i (not_earlier_trans i j k pi pj pk (not_earlier j i h) (not_earlier k j g))

pub earlier_apart : (i j : Stamp) → is_earlier i j ≡ true → is_earlier j i ≡ false
earlier_apart i j h = not_earlier_test j i (λ e. asym i j ((tests_right.1 i j).0 h) e)

pub some_none : {A : Type 0} {B : Type 0} (o : Option B) (x : B) → o ≡ None → o ≡ Some x → A
some_none o x e f = let z : ◌≡◌ {A = ℕ} 0 1 = cc in absurd (omega arith)

pub some_some : {B : Type 0} (o : Option B) (x y : B) → o ≡ Some x → o ≡ Some y → x ≡ y
some_some o x y e f = cc

-- the best of the slots below n
pub record Low (q : Queue) (n s : ℕ) (m : Stamp) : Type 0 where
  pub inside : s < n
  pub here : q s ≡ Some m
  pub least : (j : ℕ) (k : Stamp) → j < n → q j ≡ Some k → is_earlier k m ≡ false
  pub lowest : (j : ℕ) (k : Stamp) → j < n → q j ≡ Some k → is_earlier m k ≡ false → s ≤ j

abbrev pub Best : Queue → ℕ → Option (ℕ × Stamp) → Type 0
Best q n None = (j : ℕ) → j < n → q j ≡ None
Best q n (Some p) = Low q n p.0 p.1

-- below n + 1: below n, or n itself
below_or : (P : ℕ → Type 0) (n : ℕ) → ((j : ℕ) → j < n → P j) → P n → (j : ℕ) → j < suc n → P j
below_or P n f g j l = ⊎_elim (f j) (λ h. subst P (let e : n ≡ j = omega arith in e) g) (cases_lt j n)

module _ (q : Queue) (held : Held q) (n : ℕ) where
  skip : (b : Option (ℕ × Stamp)) → Best q n b → q n ≡ None → Best q (suc n) b
  skip None h e = below_or _ n h e
  skip (Some p) h e = record {
    inside = omega (arith, h.inside);
    here = h.here;
    least = λ j k l. below_or (λ j. q j ≡ Some k → is_earlier k p.1 ≡ false) n (λ i u. h.least i k u) (λ f. some_none _ _ e f) j l;
    lowest = λ j k l. below_or (λ j. q j ≡ Some k → is_earlier p.1 k ≡ false → p.0 ≤ j) n (λ i u. h.lowest i k u) (λ f. some_none _ _ e f) j l;
  }

  irreflexive : (m : Stamp) → is_earlier m m ≡ false
  irreflexive m = not_earlier_test m m (λ e. asym m m e e)

  same_not_earlier : (m k : Stamp) → m ≡ k → is_earlier k m ≡ false
  same_not_earlier m k e = subst (λ (x : Stamp). is_earlier x m ≡ false) e (irreflexive m)

  start : (m : Stamp) → Best q n None → q n ≡ Some m → Best q (suc n) (Some (n, m))
  start m h e = record {
    inside = omega arith;
    here = e;
    least = λ j k l. below_or (λ j. q j ≡ Some k → is_earlier k m ≡ false) n (λ i u f. some_none _ _ (h i u) f) (λ f. same_not_earlier m k (some_some _ _ _ e f)) j l;
    lowest = λ j k l. below_or (λ j. q j ≡ Some k → is_earlier m k ≡ false → n ≤ j) n (λ i u f. some_none _ _ (h i u) f) (λ f g. omega arith) j l;
  }

  better : (p : ℕ × Stamp) (m : Stamp) → Low q n p.0 p.1 → q n ≡ Some m → is_earlier m p.1 ≡ true → Best q (suc n) (Some (n, m))
  better p m h e t = record {
    inside = omega arith;
    here = e;
    least = λ j k l. below_or (λ j. q j ≡ Some k → is_earlier k m ≡ false) n
        (λ i u f. not_earlier_chain m p.1 k (pr n m e) (pr p.0 p.1 h.here) (pr i k f) (earlier_apart m p.1 t) (h.least i k u f))
        (λ f. same_not_earlier m k (some_some _ _ _ e f)) j l;
    lowest = λ j k l. below_or (λ j. q j ≡ Some k → is_earlier m k ≡ false → n ≤ j) n
        (λ i u f g. absurd (both_ways (is_earlier m p.1) (not_earlier_chain p.1 k m (pr p.0 p.1 h.here) (pr i k f) (pr n m e) (h.least i k u f) g) t))
        (λ f g. omega arith) j l;
  }
    where
      pr : (k : ℕ) (x : Stamp) → q k ≡ Some x → Proper x.time
      pr = held.proper

  worse : (p : ℕ × Stamp) (m : Stamp) → Low q n p.0 p.1 → q n ≡ Some m → is_earlier m p.1 ≡ false → Best q (suc n) (Some p)
  worse p m h e t = record {
    inside = omega (arith, h.inside);
    here = h.here;
    least = λ j k l. below_or (λ j. q j ≡ Some k → is_earlier k p.1 ≡ false) n (λ i u. h.least i k u) (λ f. subst (λ (x : Stamp). is_earlier x p.1 ≡ false) (some_some _ _ _ e f) t) j l;
    lowest = λ j k l. below_or (λ j. q j ≡ Some k → is_earlier p.1 k ≡ false → p.0 ≤ j) n (λ i u. h.lowest i k u) (λ f g. omega (arith, h.inside)) j l;
  }

  more : (b : Option (ℕ × Stamp)) (o : Option Stamp) → q n ≡ o → Best q n b → Best q (suc n) (sooner b n o)
  more b None e h = skip b h e
  more None (Some m) e h = start m h e
  more (Some p) (Some m) e h =
      ⊎_elim
      (λ t. subst (λ (x : Bool). Best q (suc n) (cond x (Some (n, m)) (Some p))) (sym t) (better p m h e t))
      (λ t. subst (λ (x : Bool). Best q (suc n) (cond x (Some (n, m)) (Some p))) (sym t) (worse p m h e t))
      (cases_Bool (is_earlier m p.1))

best_below : (q : Queue) → Held q → (n : ℕ) → Best q n (first_below n q)
best_below q held zero = λ j l. absurd (omega arith)
best_below q held (suc n) = more q held n (first_below n q) (q n) refl (best_below q held n)

whole : (q : Queue) → Held q → (b : Option (ℕ × Stamp)) → Best q 12352 b → First q b
whole q held None h = λ k. ⊎_elim (h k) (held.within k) (cases_lt k 12352)
whole q held (Some p) h = record {
  here = h.here;
  least = λ k m e. ⊎_elim (λ l. h.least k m l e) (λ l. some_none _ _ (held.within k l) e) (cases_lt k 12352);
  lowest = λ k m e. ⊎_elim (λ l. h.lowest k m l e) (λ l. some_none _ _ (held.within k l) e) (cases_lt k 12352);
}

-- the computed answer is the least moment's
pub first_right : (q : Queue) → Held q → First q (soonest q)
unfolding soonest
first_right q held = whole q held (first_below 12352 q) (best_below q held 12352)

pub soonest_first : SoonestFirst
unfolding soonest
soonest_first q = refl

-- two answers are one
pub first_one : (q : Queue) (a b : Option (ℕ × Stamp)) → First q a → First q b → a ≡ b
first_one q None None f g = refl
first_one q None (Some p) f g = some_none _ _ (f p.0) g.here
first_one q (Some p) None f g = some_none _ _ (g p.0) f.here
first_one q (Some p) (Some r) f g =
    let l : p.0 ≤ r.0 = f.lowest r.0 r.1 g.here (g.least p.0 p.1 f.here) in
    let u : r.0 ≤ p.0 = g.lowest p.0 p.1 f.here (f.least r.0 r.1 g.here) in
    let e : p.0 ≡ r.0 = omega arith in
    let m : p.1 ≡ r.1 = some_some (q r.0) _ _ (subst (λ (k : ℕ). q k ≡ Some p.1) e f.here) g.here in
    λ i. Some (e i, m i)

-- an answer with the property is the computed one
pub first_only : (q : Queue) → Held q → (o : Option (ℕ × Stamp)) → First q o → o ≡ soonest q
first_only q held o f = first_one q o (soonest q) f (first_right q held)

pub firsts_right : FirstsRight
firsts_right q held = (first_right q held, first_only q held)

empties : (q : Queue) (o : Option (ℕ × Stamp)) → First q o → Decides (is_nothing o) ((k : ℕ) → q k ≡ None)
empties q None f = ((λ _. f), (λ _. refl))
empties q (Some p) f = ((λ e. absurd (both_ways false refl e)), (λ h. some_none _ _ (h p.0) f.here))

pub empty_right : EmptyRight
empty_right q held = empties q (soonest q) (first_right q held)

-- whether there is a first, from an answer with the property
pub nothing_is : (q : Queue) → Held q → (o : Option (ℕ × Stamp)) → First q o → is_nothing o ≡ is_nothing (soonest q)
nothing_is q held o f = ap is_nothing (first_only q held o f)
