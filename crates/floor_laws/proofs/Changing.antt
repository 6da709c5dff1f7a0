-- A filing or a ride: the followers leave, the book changes, they enter again.
use Rattle.std.proofs.Common.{◌≡◌, ℕ, zero, suc, ◌<◌, Bool, true, false, cond, ◌&&◌, List, [], ◌∷◌, ◌++◌, sym, refl, ap, ◌∙◌, ap₂, arith}
use mathlib.Core.List.Memᴰ
use Rattle.rules.specs.Basics.{◌∈◌, those, below}
use Rattle.rules.specs.Stamps.{Stamp}
use Rattle.rules.specs.Books.{BookChange, changed, follows}
use Rattle.rules.specs.Boxes.{Box}
use Rattle.model.specs.Halls.{Hall, with_book, in_hall, all_craft}
use Rattle.model.specs.Moves.{then, each, enter, leave, craft_of, craft_set, followers, come_back, change}
use Rattle.accounts.proofs.Puts.{those_in, in_below}
use Rattle.floor_laws.specs.Writing.{Move, Wrote, Fits, Grows}
use Rattle.floor_laws.proofs.Writes.{wrote_as, fits_as, wrote_then, fits_first, fits_second, first_room}
use Rattle.floor_laws.proofs.Loops.{prefix, grows_each, those_append}
use Rattle.floor_laws.proofs.Moving.{enter_grows}

-- one test after another is both at once
those_those : (p q : ℕ → Bool) (xs : List ℕ) → those p (those q xs) ≡ those (λ d. q d && p d) xs
those_those p q [] = refl
those_those p q (x ∷ xs) = go (q x) (those_those p q xs)
  where
    go : (b : Bool) → those p (those q xs) ≡ those (λ d. q d && p d) xs → those p (cond b (x ∷ those q xs) (those q xs)) ≡ cond (b && p x) (x ∷ those (λ d. q d && p d) xs) (those (λ d. q d && p d) xs)
    go true e = ap (λ (ys : List ℕ). cond (p x) (x ∷ ys) ys) e
    go false e = e

-- tests that agree below n
those_below : (p q : ℕ → Bool) (n : ℕ) → ((d : ℕ) → d < n → p d ≡ q d) → those p (below n) ≡ those q (below n)
those_below p q zero h = refl
those_below p q (suc n) h =
    those_append p (below n) (n ∷ [])
    ∙ ap₂ ◌++◌ (those_below p q n (λ d l. h d (omega arith))) (ap (λ (b : Bool). cond b (n ∷ []) []) (h n (omega arith)))
    ∙ sym (those_append q (below n) (n ∷ []))

pub followers_are : (c : ℕ) (m : Hall) (p : ℕ → Bool) → ((d : ℕ) → d < 64 → p d ≡ in_hall m d && follows m.book c d) → followers c m ≡ those p (below 64)
unfolding all_craft
followers_are c m p h = those_those (follows m.book c) (in_hall m) (below 64) ∙ sym (those_below p (λ d. in_hall m d && follows m.book c d) 64 h)

each_same : (f g : ℕ → Move) (ds : List ℕ) → ((d : ℕ) → d ∈ ds → f d ≡ g d) → each f ds ≡ each g ds
each_same f g [] h = refl
each_same f g (d ∷ ds) h = ap₂ then (h d (Memᴰ.head refl)) (each_same f g ds (λ e i. h e (Memᴰ.tail i)))

module _ (x : BookChange) (k : Stamp) (n : ℕ) (m : Hall) (s : List ℕ) (p : ℕ → Bool) (box : ℕ → Box)
    (e : followers (craft_set x) m ≡ those p (below 64)) (f : (d : ℕ) → d < 64 → p d ≡ true → box d ≡ (craft_of d m).box) (w : Fits (change x k) n m s) where
  abbrev back : ℕ → Move
  back d = enter d (box d) k

  abbrev anew : Hall → Hall
  anew h = with_book (changed x h.book) h

  abbrev again : Move
  again h = prefix back p 64 (anew h)

  same : come_back (followers (craft_set x) m) m k ≡ prefix back p 64
  same =
      ap (λ (ds : List ℕ). come_back ds m k) e
      ∙ each_same (λ d. enter d (craft_of d m).box k) back (those p (below 64)) (λ d i. let j = those_in p (below 64) d i in ap (λ (b : Box). enter d b k) (sym (f d (in_below 64 d j.0) j.1)))

  change_is : change x k m ≡ then (prefix leave p 64) again m
  change_is = ap₂ (λ (ds : List ℕ) (g : Move). then (each leave ds) (λ h. g (anew h)) m) e same

  whole : Fits (then (prefix leave p 64) again) n m s
  whole = fits_as (change x k) (then (prefix leave p 64) again) n m m s change_is w

  again_grows : Grows again
  again_grows h = grows_each back p (λ d. enter_grows d (box d) k) (those p (below 64)) (anew h)

  pub change_leaves : Fits (prefix leave p 64) n m s
  change_leaves = fits_first (prefix leave p 64) again n m s again_grows whole

  module _ (m₁ m₂ : Hall) (s₁ : List ℕ) (r : ℕ) (v : Wrote (prefix leave p 64) n m m₁ s s₁ r) (g : m₂ ≡ anew m₁) where
    pub change_enters : Fits (prefix back p 64) r m₂ s₁
    change_enters = fits_as again (prefix back p 64) r m₁ m₂ s₁ (ap (prefix back p 64) (sym g)) (fits_second (prefix leave p 64) again n m m₁ s s₁ r whole v)

    pub change_wrote : (m₃ : Hall) (s₂ : List ℕ) (r₂ : ℕ) → Wrote (prefix back p 64) r m₂ m₃ s₁ s₂ r₂ → Wrote (change x k) n m m₃ s s₂ r₂
    change_wrote m₃ s₂ r₂ u =
        wrote_as (change x k) (then (prefix leave p 64) again) n m m m₃ s s₂ r₂ change_is
        (wrote_then (prefix leave p 64) again n m m₁ m₃ s s₁ s₂ r r₂ (first_room (prefix leave p 64) again n m s whole) v
        (wrote_as again (prefix back p 64) r m₁ m₂ m₃ s₁ s₂ r₂ (ap (prefix back p 64) (sym g)) u))
