-- Small facts about functions changed at one place, and about lists.
use Rattle.std.proofs.Common.{◌≡◌, ℕ, zero, suc, ◌<◌, Bool, true, false, cond, eqb, ◌⊎◌, List, [], ◌∷◌, ◌++◌, map, sym, refl, ap, ◌∙◌, subst, inl, inr, arith, eq-eqb, ne_eqb, eqb-true}
use mathlib.Core.List.Memᴰ
use borrow.Author.Tests.{eqb-false}
use Rattle.rules.specs.Basics.{◌∈◌, those, below, put, InTurn}

pub put_here : {A : Type 0} (f : ℕ → A) (k : ℕ) (v : A) → put f k v k ≡ v
put_here f k v = ap (λ (b : Bool). cond b v (f k)) (eq-eqb k k refl)

pub put_other : {A : Type 0} (f : ℕ → A) (k : ℕ) (v : A) (j : ℕ) → (j ≡ k → ⊥) → put f k v j ≡ f j
put_other f k v j ne = ap (λ (b : Bool). cond b v (f j)) (ne_eqb j k ne)

-- a number is another or not
pub same_or_not : (j k : ℕ) → (j ≡ k) ⊎ (j ≡ k → ⊥)
same_or_not j k = by (eqb j k) refl
  where
    by : (b : Bool) → eqb j k ≡ b → (j ≡ k) ⊎ (j ≡ k → ⊥)
    by true e = inl (eqb-true j k e)
    by false e = inr (eqb-false j k e)

pub true_or_false : (b : Bool) → (b ≡ true) ⊎ (b ≡ false)
true_or_false true = inl refl
true_or_false false = inr refl

-- LISTS

pub those_append : {A : Type 0} (p : A → Bool) (xs ys : List A) → those p (xs ++ ys) ≡ those p xs ++ those p ys
those_append p [] ys = refl
those_append {A} p (x ∷ xs) ys = by (those_append p xs ys) (p x)
  where
    by : those p (xs ++ ys) ≡ those p xs ++ those p ys → (b : Bool) → cond b (x ∷ those p (xs ++ ys)) (those p (xs ++ ys)) ≡ cond b (x ∷ those p xs) (those p xs) ++ those p ys
    by e true = ap (λ (zs : List A). x ∷ zs) e
    by e false = e

pub map_append : {A B : Type 0} (f : A → B) (xs ys : List A) → map f (xs ++ ys) ≡ map f xs ++ map f ys
map_append f [] ys = refl
map_append {A} {B} f (x ∷ xs) ys = ap (λ (zs : List B). f x ∷ zs) (map_append f xs ys)

pub those_in : {A : Type 0} (p : A → Bool) (xs : List A) (x : A) → x ∈ those p xs → (x ∈ xs) × (p x ≡ true)
those_in p [] x e = absurd (Memᴰ.not-nil e)
those_in {A} p (y ∷ ys) x e = by (λ g. those_in p ys x g) (p y) refl e
  where
    pick : (x ∈ those p ys → (x ∈ ys) × (p x ≡ true)) → p y ≡ true → (x ≡ y) ⊎ (x ∈ those p ys) → (x ∈ (y ∷ ys)) × (p x ≡ true)
    pick more q (inl r) = (Memᴰ.head r, ap p r ∙ q)
    pick more q (inr r) = (Memᴰ.tail (more r).0, (more r).1)

    by : (x ∈ those p ys → (x ∈ ys) × (p x ≡ true)) → (b : Bool) → p y ≡ b → x ∈ cond b (y ∷ those p ys) (those p ys) → (x ∈ (y ∷ ys)) × (p x ≡ true)
    by more false q e = (Memᴰ.tail (more e).0, (more e).1)
    by more true q e = pick more q (Memᴰ.cases_cons e)

pub in_those : {A : Type 0} (p : A → Bool) (xs : List A) (x : A) → x ∈ xs → p x ≡ true → x ∈ those p xs
in_those p [] x e q = absurd (Memᴰ.not-nil e)
in_those {A} p (y ∷ ys) x e q = by (λ g. in_those p ys x g q) (p y) refl (Memᴰ.cases_cons e)
  where
    by : (x ∈ ys → x ∈ those p ys) → (b : Bool) → p y ≡ b → (x ≡ y) ⊎ (x ∈ ys) → x ∈ cond b (y ∷ those p ys) (those p ys)
    by more true r (inl g) = Memᴰ.head g
    by more true r (inr g) = Memᴰ.tail (more g)
    by more false r (inr g) = more g
    by more false r (inl g) = let z : true ≡ false = sym q ∙ ap p g ∙ r in absurd (let w : ◌≡◌ {A = ℕ} 0 1 = cc in omega arith)

pub in_below : (n k : ℕ) → k ∈ below n → k < n
in_below zero k e = absurd (Memᴰ.not-nil e)
in_below (suc n) k e = by (λ g. in_below n k g) (Memᴰ.append_cases (below n) e)
  where
    by : (k ∈ below n → k < n) → (k ∈ below n) ⊎ (k ∈ (n ∷ [])) → k < suc n
    by more (inl g) = let h = more g in omega arith
    by more (inr g) = let h : k ≡ n = Memᴰ.eq_of_singleton g in omega arith

pub below_in : (n k : ℕ) → k < n → k ∈ below n
below_in zero k e = absurd (omega arith)
below_in (suc n) k e = by (λ h. below_in n k h) (same_or_not k n)
  where
    by : (k < n → k ∈ below n) → (k ≡ n) ⊎ (k ≡ n → ⊥) → k ∈ below (suc n)
    by more (inl q) = Memᴰ.append_right (below n) (Memᴰ.head q)
    by more (inr q) = Memᴰ.append_left (n ∷ []) (more (omega arith))

-- IN TURN

pub turn_append : {A : Type 0} (R : A → A → Type 0) (xs ys : List A) → InTurn R xs → InTurn R ys → ((x y : A) → x ∈ xs → y ∈ ys → R x y) → InTurn R (xs ++ ys)
turn_append R [] ys h g r = g
turn_append {A} R (x ∷ xs) ys h g r = (λ z e. by z (Memᴰ.append_cases xs e), turn_append R xs ys h.1 g (λ u v p q. r u v (Memᴰ.tail p) q))
  where
    by : (z : A) → (z ∈ xs) ⊎ (z ∈ ys) → R x z
    by z (inl e) = h.0 z e
    by z (inr e) = r x z (Memᴰ.head refl) e

pub turn_one : {A : Type 0} (R : A → A → Type 0) (x : A) → InTurn R (x ∷ [])
turn_one R x = (λ y e. absurd (Memᴰ.not-nil e), tt)

pub turn_those : {A : Type 0} (R : A → A → Type 0) (p : A → Bool) (xs : List A) → InTurn R xs → InTurn R (those p xs)
turn_those R p [] h = tt
turn_those {A} R p (x ∷ xs) h = by (turn_those R p xs h.1) (p x)
  where
    by : InTurn R (those p xs) → (b : Bool) → InTurn R (cond b (x ∷ those p xs) (those p xs))
    by more true = (λ y e. h.0 y (those_in p xs y e).0, more)
    by more false = more

pub turn_map : {A B : Type 0} (R : A → A → Type 0) (S : B → B → Type 0) (f : A → B) (xs : List A) → ((x y : A) → x ∈ xs → y ∈ xs → R x y → S (f x) (f y)) → InTurn R xs → InTurn S (map f xs)
turn_map R S f [] g h = tt
turn_map {A} {B} R S f (x ∷ xs) g h = (λ z e. by z e, turn_map R S f xs (λ u v p q r. g u v (Memᴰ.tail p) (Memᴰ.tail q) r) h.1)
  where
    by : (z : B) → z ∈ map f xs → S (f x) z
    by z e = let w = Memᴰ.of_map f xs e in subst (λ (v : B). S (f x) v) w.2 (g x w.0 (Memᴰ.head refl) (Memᴰ.tail w.1) (h.0 w.0 w.1))

pub turn_below : (n : ℕ) → InTurn (λ (x y : ℕ). x < y) (below n)
turn_below zero = tt
turn_below (suc n) = turn_append (λ (x y : ℕ). x < y) (below n) (n ∷ []) (turn_below n) (turn_one (λ (x y : ℕ). x < y) n) (λ x y p q. let a = in_below n x p in let b : y ≡ n = Memᴰ.eq_of_singleton q in omega arith)
