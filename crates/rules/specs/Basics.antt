-- Small words about lists, options and functions.
use Rattle.std.specs.Prelude.{ℕ, zero, suc, Bool, cond, List, [], ◌∷◌, ◌++◌, Some, None, Option, ◌==◌}
use mathlib.Core.List.{Memᴰ}

infix 40 ◌∈◌
-- x stands in xs
abbrev pub ◌∈◌ : {A : Type 0} → A → List A → Type 0
x ∈ xs = Memᴰ x xs

-- those of xs that pass
abbrev pub those : {A : Type 0} → (A → Bool) → List A → List A
those p [] = []
those p (x ∷ xs) = let ys = those p xs in cond (p x) (x ∷ ys) ys

abbrev pub joined : {A : Type 0} → List (List A) → List A
joined [] = []
joined (x ∷ xs) = x ++ joined xs

-- 0, 1, 2 and on, n of them
abbrev pub below : ℕ → List ℕ
below zero = []
below (suc n) = below n ++ (n ∷ [])

-- f, but v at k
abbrev pub put : {A : Type 0} → (ℕ → A) → ℕ → A → ℕ → A
put f k v j = let w = f j in cond (j == k) v w

-- what an option holds, or d
abbrev pub the : {A : Type 0} → A → Option A → A
the d None = d
the d (Some x) = x

-- each x stands to all that come after it as R says
abbrev pub InTurn : {A : Type 0} → (A → A → Type 0) → List A → Type 0
InTurn R [] = Unit
InTurn R (x ∷ xs) = ((y : _) → y ∈ xs → R x y) × InTurn R xs

-- of rows, each a number and whether it fits, the first that fits
abbrev pub first_fit : List (ℕ × Bool) → Option ℕ
first_fit [] = None
first_fit (r ∷ rs) = cond r.1 (Some r.0) (first_fit rs)
