-- Times and moments are totally ordered, and the tests decide the order.
use Rattle.std.proofs.Common.{◌≡◌, ℕ, ◌*◌, ◌<◌, Bool, true, false, not, ◌&&◌, ◌||◌, ltb, ◌⊎◌, Decides, sym, refl, ap, inl, inr, ⊎_elim, arith, le-ltb, lt-ltb}
use native.Mathlib.Decide.{dec_lt}
use Rattle.std.proofs.lemmas.Bool.Decides.{Decides-ltb}
use Rattle.rules.specs.Fractions.{Fraction, Before, SameTime}
use Rattle.rules.specs.Stamps.{Stamp, Earlier, side}
use Rattle.rules.specs.Laws.{TestsRight, TimesOrdered, SameStamp, StampsOrdered}
use Rattle.rules.proofs.Order.{before_trans}
use Rattle.rules.proofs.Stamped.{asym, earlier_trans}

-- over numbers: x against y, and two sides
earlier_test : (x y : ℕ) (b c : Bool) → Decides (ltb x y || (not (ltb y x) && (not b && c))) ((x < y) ⊎ ((x ≡ y) × (side b < side c)))
earlier_test x y b c = go (dec_lt x y) (dec_lt y x)
  where
    go : Dec (x < y) → Dec (y < x) → Decides (ltb x y || (not (ltb y x) && (not b && c))) ((x < y) ⊎ ((x ≡ y) × (side b < side c)))
    go (yes h) k = rw (lt-ltb x y h) ((λ _. inl h), (λ _. refl))
    go (no h) (yes k) = rw (le-ltb x y (omega arith), lt-ltb y x k) ((λ e. absurd (no_way e)), (λ p. absurd (⊎_elim h (λ q. omega (arith, q.0)) p)))
      where
        no_way : false ≡ true → ⊥
        no_way e = let z : ◌≡◌ {A = ℕ} 0 1 = ap side e in omega arith
    go (no h) (no k) = rw (le-ltb x y (omega arith), le-ltb y x (omega arith)) (sides b c (omega arith))
      where
        sides : (b c : Bool) → x ≡ y → Decides (not b && c) ((x < y) ⊎ ((x ≡ y) × (side b < side c)))
        sides false true e = ((λ _. inr (e, omega arith)), (λ _. refl))
        sides false false e = ((λ f. absurd (no_way f)), (λ p. absurd (⊎_elim h (λ q. omega (arith, q.1)) p)))
          where
            no_way : false ≡ true → ⊥
            no_way e = let z : ◌≡◌ {A = ℕ} 0 1 = ap side e in omega arith
        sides true c e = ((λ f. absurd (no_way f)), (λ p. absurd (⊎_elim h (λ q. late c q.1) p)))
          where
            no_way : false ≡ true → ⊥
            no_way e = let z : ◌≡◌ {A = ℕ} 0 1 = ap side e in omega arith

            late : (c : Bool) → 1 < side c → ⊥
            late true l = omega arith
            late false l = omega arith

pub tests_right : TestsRight
tests_right = ((λ s t. Decides-ltb (s.num * t.den) (t.num * s.den)), (λ m k. earlier_test (m.time.num * k.time.den) (k.time.num * m.time.den) m.after k.after))

pub times_ordered : TimesOrdered
times_ordered = record {
  trans = λ x y z p q r h k. before_trans x y z p h k;
  apart = λ x y h k. omega arith;
  total = λ x y p q. total x y (dec_lt (x.num * y.den) (y.num * x.den)) (dec_lt (y.num * x.den) (x.num * y.den));
  same = λ x y p q s h. omega arith;
}
  where
    total : (x y : Fraction) → Dec (Before x y) → Dec (Before y x) → Before x y ⊎ (SameTime x y ⊎ Before y x)
    total x y (yes h) k = inl h
    total x y (no h) (yes k) = inr (inr k)
    total x y (no h) (no k) = inr (inl (omega arith))

pub stamps_ordered : StampsOrdered
stamps_ordered = record {
  trans = λ x y z p q r h k. earlier_trans x y z p q r h k;
  apart = asym;
  total = λ x y p q. total x y (dec_lt (x.time.num * y.time.den) (y.time.num * x.time.den)) (dec_lt (y.time.num * x.time.den) (x.time.num * y.time.den));
  same = λ x y p q s h. clash x y s h;
}
  where
    sides : (b c : Bool) → (side b < side c) ⊎ ((b ≡ c) ⊎ (side c < side b))
    sides true true = inr (inl refl)
    sides true false = inr (inr (omega arith))
    sides false true = inl (omega arith)
    sides false false = inr (inl refl)

    total : (x y : Stamp) → Dec (Before x.time y.time) → Dec (Before y.time x.time) → Earlier x y ⊎ (SameStamp x y ⊎ Earlier y x)
    total x y (yes h) k = inl (inl h)
    total x y (no h) (yes k) = inr (inr (inl k))
    total x y (no h) (no k) = go (omega arith) (sides x.after y.after)
      where
        go : SameTime x.time y.time → (side x.after < side y.after) ⊎ ((x.after ≡ y.after) ⊎ (side y.after < side x.after)) → Earlier x y ⊎ (SameStamp x y ⊎ Earlier y x)
        go e (inl a) = inl (inr (e, a))
        go e (inr (inl a)) = inr (inl (e, a))
        go e (inr (inr a)) = inr (inr (inr (sym e, a)))

    clash : (x y : Stamp) → SameStamp x y → Earlier x y → ⊥
    clash x y s (inl h) = omega (arith, s.0)
    clash x y s (inr h) = omega (arith, h.1, ap side s.1)
