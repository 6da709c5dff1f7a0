-- The followers' records, saved one after another; and what they are for.
use Rattle.std.proofs.Common.{◌≡◌, ℕ, ◌<◌, ◌≤◌, Bool, true, false, cond, ◌&&◌, List, length, get_or, is_some, Some, None, Option, sym, refl, ap, ◌∙◌, subst, arith}
use Rattle.std.proofs.lemmas.List.{get_or_default}
use Rattle.rules.specs.Basics.{the, those, below}
use Rattle.rules.specs.Stamps.{Stamp}
use Rattle.rules.specs.Books.{BookChange, follows, changed}
use Rattle.rules.specs.Boxes.{Box}
use Rattle.model.specs.Halls.{Craft, Hall, in_hall, with_book}
use Rattle.model.specs.Moves.{nobody, craft_of, craft_set, followers, enter, leave, change}
use Rattle.tables.specs.declared.craft.CraftRecord.{CraftRecord}
use Rattle.tables.specs.Crafts.{record_of, record_in}
use Rattle.floor_laws.specs.Writing.{Move, Wrote, Fits, where_so}
use Rattle.floor_laws.proofs.Loops.{prefix}
use Rattle.floor_laws.proofs.Writes.{wrote_as, fits_as}
use Rattle.floor_laws.proofs.Changing.{followers_are, change_leaves, change_enters, change_wrote}
use Rattle.floor.specs.Saved.{Saved, is_saved, saved_box, box_in}

some_in : (o : Option CraftRecord) → is_some (record_in o) ≡ is_some o
some_in None = refl
some_in (Some r) = refl

some_cond : (b : Bool) (o : Option Craft) → is_some (cond b o None) ≡ is_some o && b
some_cond true None = refl
some_cond true (Some r) = refl
some_cond false None = refl
some_cond false (Some r) = refl

module _ (c : ℕ) (m : Hall) (xs : List (Option CraftRecord)) (s : Saved c m 64 xs) where
  saved_test : (d : ℕ) → d < 64 → is_saved xs d ≡ in_hall m d && follows m.book c d
  saved_test d h = sym (some_in (get_or xs d None)) ∙ ap is_some (s.each d h) ∙ some_cond (follows m.book c d) (m.craft d)

  saved_followers : followers c m ≡ those (is_saved xs) (below 64)
  saved_followers = followers_are c m (is_saved xs) saved_test

  saved_boxes : (d : ℕ) → d < 64 → is_saved xs d ≡ true → saved_box xs d ≡ (craft_of d m).box
  saved_boxes d h t = ap (λ (o : Option Craft). (the nobody o).box) (s.each d h ∙ go (follows m.book c d) (sym (some_cond (follows m.book c d) (m.craft d)) ∙ ap is_some (sym (s.each d h)) ∙ some_in (get_or xs d None) ∙ t))
    where
      go : (b : Bool) → is_some (m.craft d) && b ≡ true → cond b (m.craft d) None ≡ m.craft d
      go true e = refl
      go false e = absurd (no_way (is_some (m.craft d)) e)
        where
          no_way : (x : Bool) → x && false ≡ true → ⊥
          no_way true e = let z : ◌≡◌ {A = ℕ} 0 1 = cc in omega arith
          no_way false e = let z : ◌≡◌ {A = ℕ} 0 1 = cc in omega arith

-- what a change of the book asks and comes to, by the saved records
module _ (x : BookChange) (k : Stamp) (n : ℕ) (m : Hall) (s : List ℕ) (xs : List (Option CraftRecord)) (v : Saved (craft_set x) m 64 xs) (w : Fits (change x k) n m s) where
  pub saved_leave : Fits (prefix leave (is_saved xs) 64) n m s
  saved_leave = change_leaves x k n m s (is_saved xs) (saved_box xs) (saved_followers (craft_set x) m xs v) (saved_boxes (craft_set x) m xs v) w

  module _ (m₁ m₂ : Hall) (s₁ : List ℕ) (r : ℕ) (u : Wrote (prefix leave (is_saved xs) 64) n m m₁ s s₁ r) (g : m₂ ≡ with_book (changed x m₁.book) m₁) where
    pub saved_enter : Fits (prefix (λ d. enter d (saved_box xs d) k) (is_saved xs) 64) r m₂ s₁
    saved_enter = change_enters x k n m s (is_saved xs) (saved_box xs) (saved_followers (craft_set x) m xs v) (saved_boxes (craft_set x) m xs v) w m₁ m₂ s₁ r u g

    pub saved_change : (m₃ : Hall) (s₂ : List ℕ) (r₂ : ℕ) → Wrote (prefix (λ d. enter d (saved_box xs d) k) (is_saved xs) 64) r m₂ m₃ s₁ s₂ r₂ → Wrote (change x k) n m m₃ s s₂ r₂
    saved_change = change_wrote x k n m s (is_saved xs) (saved_box xs) (saved_followers (craft_set x) m xs v) (saved_boxes (craft_set x) m xs v) w m₁ m₂ s₁ r u g

-- a loop that has come to its end
pub loop_over : (f : ℕ → Move) (p : ℕ → Bool) (d n : ℕ) (m m' : Hall) (s s' : List ℕ) (r : ℕ) → 64 ≤ d → d ≤ 64 → Wrote (prefix f p d) n m m' s s' r → Wrote (prefix f p 64) n m m' s s' r
loop_over f p d n m m' s s' r h k w = let e : d ≡ 64 = omega arith in subst (λ (z : ℕ). Wrote (prefix f p z) n m m' s s' r) e w

-- a record that is kept, and the box made of it
module _ (d n : ℕ) (k : Stamp) (m : Hall) (s : List ℕ) (o : Option CraftRecord) where
  kept_is : (r : CraftRecord) (b : Box) → o ≡ Some r → b ≡ (record_of r).box → where_so (is_some o) (enter d (box_in o) k) m ≡ enter d b k m
  kept_is r b e f = ap (λ (z : Option CraftRecord). where_so (is_some z) (enter d (box_in z) k) m) e ∙ ap (λ (z : Box). enter d z k m) (sym f)

  pub kept_fits : (r : CraftRecord) (b : Box) → o ≡ Some r → b ≡ (record_of r).box → Fits (where_so (is_some o) (enter d (box_in o) k)) n m s → Fits (enter d b k) n m s
  kept_fits r b e f x = fits_as (where_so (is_some o) (enter d (box_in o) k)) (enter d b k) n m m s (kept_is r b e f) x

  pub kept_wrote : (r : CraftRecord) (b : Box) → o ≡ Some r → b ≡ (record_of r).box → (m' : Hall) (s' : List ℕ) (t : ℕ) → Wrote (enter d b k) n m m' s s' t → Wrote (where_so (is_some o) (enter d (box_in o) k)) n m m' s s' t
  kept_wrote r b e f m' s' t w = wrote_as (where_so (is_some o) (enter d (box_in o) k)) (enter d b k) n m m m' s s' t (kept_is r b e f) w

-- a record that is read, at any default
module _ (xs : List (Option CraftRecord)) (d : ℕ) (x : Option CraftRecord) (h : d < length xs) where
  pub place_is : get_or xs d x ≡ get_or xs d None
  place_is = get_or_default xs d x None h

  module _ (n : ℕ) (k : Stamp) (m : Hall) (s : List ℕ) where
    pub place_fits : Fits (where_so (is_saved xs d) (enter d (saved_box xs d) k)) n m s → Fits (where_so (is_some (get_or xs d x)) (enter d (box_in (get_or xs d x)) k)) n m s
    place_fits w = subst (λ (o : Option CraftRecord). Fits (where_so (is_some o) (enter d (box_in o) k)) n m s) (sym place_is) w

    pub place_wrote : (m' : Hall) (s' : List ℕ) (r : ℕ) → Wrote (where_so (is_some (get_or xs d x)) (enter d (box_in (get_or xs d x)) k)) n m m' s s' r → Wrote (where_so (is_saved xs d) (enter d (saved_box xs d) k)) n m m' s s' r
    place_wrote m' s' r w = subst (λ (o : Option CraftRecord). Wrote (where_so (is_some o) (enter d (box_in o) k)) n m m' s s' r) place_is w
