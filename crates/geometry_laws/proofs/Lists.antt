-- The earliest of a list of moments, and those of a list that pass a test.
use Rattle.std.proofs.Common.{◌≡◌, ℕ, Bool, true, false, cond, ◌⊎◌, List, [], ◌∷◌, Some, None, Option, sym, refl, ap, ◌∙◌, subst, inl, inr, arith}
use mathlib.Core.List.Memᴰ
use Rattle.rules.specs.Basics.{◌∈◌, those}
use Rattle.rules.specs.Fractions.{Proper}
use Rattle.rules.specs.Stamps.{Stamp, Earlier, NotEarlier, is_earlier, earlier_of, earliest}
use Rattle.rules.proofs.Stamped.{asym, false_true, not_earlier_trans}
use Rattle.rules.proofs.Ordering.{tests_right}
use Rattle.geometry_laws.proofs.Behind.{not_so}

-- the test of the order, both ways
pub earlier_is : (j k : Stamp) → Earlier j k → is_earlier j k ≡ true
earlier_is j k h = (tests_right.1 j k).1 h

pub is_earlier_so : (j k : Stamp) → is_earlier j k ≡ true → Earlier j k
is_earlier_so j k e = (tests_right.1 j k).0 e

pub not_earlier_is : (j k : Stamp) → NotEarlier j k → is_earlier j k ≡ false
not_earlier_is j k n = not_so (is_earlier j k) (λ e. n (is_earlier_so j k e))

pub not_is_earlier : (j k : Stamp) → is_earlier j k ≡ false → NotEarlier j k
not_is_earlier j k e h = false_true (sym e ∙ earlier_is j k h)

pub not_earlier_self : (m : Stamp) → NotEarlier m m
not_earlier_self m e = asym m m e e

-- those that pass
pub those_in : {A : Type 0} (p : A → Bool) (xs : List A) (x : A) → x ∈ xs → p x ≡ true → x ∈ those p xs
those_in p [] x h e = absurd (Memᴰ.not-nil h)
those_in p (y ∷ ys) x h e = go (λ f. those_in p ys x f e) (Memᴰ.cases_cons h) (p y) refl
  where
    go : (x ∈ ys → x ∈ those p ys) → (x ≡ y) ⊎ (x ∈ ys) → (b : Bool) → p y ≡ b → x ∈ cond b (y ∷ those p ys) (those p ys)
    go r (inl f) true g = Memᴰ.head f
    go r (inl f) false g = absurd (false_true (sym g ∙ sym (ap p f) ∙ e))
    go r (inr f) true g = Memᴰ.tail (r f)
    go r (inr f) false g = r f

pub those_out : {A : Type 0} (p : A → Bool) (xs : List A) (x : A) → x ∈ those p xs → (x ∈ xs) × (p x ≡ true)
those_out p [] x h = absurd (Memᴰ.not-nil h)
those_out p (y ∷ ys) x h = go (λ f. those_out p ys x f) (p y) refl h
  where
    tail : (x ∈ ys) × (p x ≡ true) → (x ∈ (y ∷ ys)) × (p x ≡ true)
    tail r = (Memᴰ.tail r.0, r.1)

    pick : (x ∈ those p ys → (x ∈ ys) × (p x ≡ true)) → p y ≡ true → (x ≡ y) ⊎ (x ∈ those p ys) → (x ∈ (y ∷ ys)) × (p x ≡ true)
    pick r g (inl f) = (Memᴰ.head f, ap p f ∙ g)
    pick r g (inr f) = tail (r f)

    go : (x ∈ those p ys → (x ∈ ys) × (p x ≡ true)) → (b : Bool) → p y ≡ b → x ∈ cond b (y ∷ those p ys) (those p ys) → (x ∈ (y ∷ ys)) × (p x ≡ true)
    go r true g h = pick r g (Memᴰ.cases_cons h)
    go r false g h = tail (r h)

-- what the earliest is
abbrev pub Best : List Stamp → Option Stamp → Type 0
Best xs None = (x : Stamp) → ¬ (x ∈ xs)
Best xs (Some k) = (k ∈ xs) × ((x : Stamp) → x ∈ xs → NotEarlier x k)

pub earliest_best : (xs : List Stamp) → ((x : Stamp) → x ∈ xs → Proper x.time) → Best xs (earliest xs)
earliest_best [] pr = λ x h. Memᴰ.not-nil h
earliest_best (m ∷ ms) pr = go (earliest ms) (earliest_best ms (λ x h. pr x (Memᴰ.tail h)))
  where
    pm : Proper m.time
    pm = pr m (Memᴰ.head refl)

    go : (o : Option Stamp) → Best ms o → Best (m ∷ ms) (Some (earlier_of m o))
    go None b = (Memᴰ.head refl, λ x h. at_m x (Memᴰ.cases_cons h))
      where
        at_m : (x : Stamp) → (x ≡ m) ⊎ (x ∈ ms) → NotEarlier x m
        at_m x (inl e) f = not_earlier_self m (subst (λ (y : Stamp). Earlier y m) e f)
        at_m x (inr h) f = absurd (b x h)
    go (Some k) b = pick (is_earlier k m) refl
      where
        pick : (t : Bool) → is_earlier k m ≡ t → Best (m ∷ ms) (Some (cond t k m))
        pick true e = (Memᴰ.tail b.0, λ x h. at_k x (Memᴰ.cases_cons h))
          where
            at_k : (x : Stamp) → (x ≡ m) ⊎ (x ∈ ms) → NotEarlier x k
            at_k x (inl f) g = asym k m (is_earlier_so k m e) (subst (λ (y : Stamp). Earlier y k) f g)
            at_k x (inr h) g = b.1 x h g
        pick false e = (Memᴰ.head refl, λ x h. at_m x h (Memᴰ.cases_cons h))
          where
            at_m : (x : Stamp) → x ∈ (m ∷ ms) → (x ≡ m) ⊎ (x ∈ ms) → NotEarlier x m
            at_m x i (inl f) g = not_earlier_self m (subst (λ (y : Stamp). Earlier y m) f g)
            at_m x i (inr h) g = not_earlier_trans m k x pm (pr k (Memᴰ.tail b.0)) (pr x i) (not_is_earlier k m e) (b.1 x h) g

-- the earliest is one of them
pub earliest_in : (xs : List Stamp) (P : Stamp → Type 0) → ((x : Stamp) → x ∈ xs → P x) → (k : Stamp) → earliest xs ≡ Some k → P k
earliest_in [] P f k e = absurd (let z : ◌≡◌ {A = ℕ} 0 1 = cc in omega arith)
earliest_in (m ∷ ms) P f k e = go (λ j h. earliest_in ms P (λ x i. f x (Memᴰ.tail i)) j h) (earliest ms) refl e
  where
    pick : (j : Stamp) (b : Bool) → P j → Some (cond b j m) ≡ Some k → P k
    pick j true x h = let g : j ≡ k = cc in subst P g x
    pick j false x h = let g : m ≡ k = cc in subst P g (f m (Memᴰ.head refl))

    go : ((j : Stamp) → earliest ms ≡ Some j → P j) → (o : Option Stamp) → earliest ms ≡ o → Some (earlier_of m o) ≡ Some k → P k
    go r None g h = let e : m ≡ k = cc in subst P e (f m (Memᴰ.head refl))
    go r (Some j) g h = pick j (is_earlier j m) (r j g) h

-- where none of the others is earlier, the first is the earliest
pub earliest_first : (m : Stamp) (ms : List Stamp) → ((x : Stamp) → x ∈ ms → is_earlier x m ≡ false) → earliest (m ∷ ms) ≡ Some m
earliest_first m ms f = go (earliest ms) refl
  where
    go : (o : Option Stamp) → earliest ms ≡ o → Some (earlier_of m o) ≡ Some m
    go None e = refl
    go (Some k) e = ap (λ (b : Bool). Some (cond b k m)) (earliest_in ms (λ x. is_earlier x m ≡ false) f k e)
