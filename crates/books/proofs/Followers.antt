-- Changes and followers, on every book.
use Rattle.std.proofs.Common.{◌≡◌, ℕ, zero, suc, Bool, true, false, cond, ◌||◌, eqb, ◌⊎◌, [], Some, None, Option, sym, refl, ap, ◌∙◌, ap₂, inl, inr, eq-eqb, ne_eqb}
use Rattle.std.proofs.lemmas.Bool.{cases_Bool, eqb-true, or_parts, or_left, both_ways}
use Rattle.rules.specs.Basics.{put}
use Rattle.rules.specs.Paths.{sum, Kept}
use Rattle.rules.specs.Plans.{path_of}
use Rattle.rules.specs.Books.{Book, BookChange, file, ride, Lawful, changed, changed_unless, book_refusal, path, path_at, carried, ridden, follows_at, in_seat}
use Rattle.plans.proofs.Straight.{line_holds}
use Rattle.books.specs.Owns.{frames_stay}
use Rattle.books.specs.Laws.{LinesHold, OthersStay, FollowersStay, craft_of}

pub lawful_kept : (b : Book) → Lawful b → (c : ℕ) → Kept b.scale (path b c)
lawful_kept b l c = l.paths [] c

pub lines_hold : LinesHold
lines_hold b l c = line_holds (path b c) (lawful_kept b l c).turns

-- a craft follows itself at every level
self_follows : (b : Book) (j c : ℕ) → follows_at b j c c ≡ true
self_follows b zero c = eq-eqb c c refl
self_follows b (suc j) c = or_left (follows_at b j c c) _ (self_follows b j c)

-- what is put at c is seen nowhere else
pub put_other : {A : Type 0} (f : ℕ → A) (c d : ℕ) (v : A) → ¬ (d ≡ c) → put f c v d ≡ f d
put_other f c d v n = ap (λ (b : Bool). cond b v (f d)) (ne_eqb d c n)

-- one seat of craft c is set: the seats of every other craft are as they were
ridden_other : (b : Book) (j c : ℕ) (k : Option ℕ) (i d : ℕ) → ¬ (d ≡ c) → (ridden j c k b).seat i d ≡ b.seat i d
ridden_other b j c k i d n = by (cases_Bool (eqb i j))
  where
    by : (eqb i j ≡ true) ⊎ (eqb i j ≡ false) → cond (eqb i j) (put (b.seat j) c k) (b.seat i) d ≡ b.seat i d
    by (inl e) = ap (λ (t : Bool). cond t (put (b.seat j) c k) (b.seat i) d) e ∙ put_other (b.seat j) c d k n ∙ ap (λ (m : ℕ). b.seat m d) (sym (eqb-true i j e))
    by (inr e) = ap (λ (t : Bool). cond t (put (b.seat j) c k) (b.seat i) d) e

-- two books that differ only at craft c: its own path, and its seats
record Beside (c : ℕ) (b e : Book) : Type 0 where
  owns : (d : ℕ) → ¬ (d ≡ c) → e.own d ≡ b.own d
  seats : (i d : ℕ) → ¬ (d ≡ c) → e.seat i d ≡ b.seat i d

module _ (c : ℕ) (b e : Book) (s : Beside c b e) where
  not_self : (j d : ℕ) → follows_at b j c d ≡ false → ¬ (d ≡ c)
  not_self j d h q = both_ways (follows_at b j c d) h (ap (follows_at b j c) q ∙ self_follows b j c)

  follows_same : (j d : ℕ) → follows_at e j c d ≡ follows_at b j c d
  follows_same zero d = refl
  follows_same (suc j) d = by (λ k. follows_same j k) (cases_Bool (eqb d c))
    where
      seat_same : ((k : ℕ) → follows_at e j c k ≡ follows_at b j c k) → (o : Option ℕ) → in_seat (follows_at e j c) o ≡ in_seat (follows_at b j c) o
      seat_same h None = refl
      seat_same h (Some k) = h k

      by : ((k : ℕ) → follows_at e j c k ≡ follows_at b j c k) → (eqb d c ≡ true) ⊎ (eqb d c ≡ false) →
          (follows_at e j c d || in_seat (follows_at e j c) (e.seat j d)) ≡ (follows_at b j c d || in_seat (follows_at b j c) (b.seat j d))
      by h (inl q) =
          let z : d ≡ c = eqb-true d c q in
          or_left (follows_at e j c d) _ (ap (follows_at e j c) z ∙ self_follows e j c) ∙ sym (or_left (follows_at b j c d) _ (ap (follows_at b j c) z ∙ self_follows b j c))
      by h (inr q) =
          ap₂ ◌||◌ (h d) (ap (in_seat (follows_at e j c)) (s.seats j d (λ z. both_ways (eqb d c) q (eq-eqb d c z))) ∙ seat_same h (b.seat j d))

  path_same : (j d : ℕ) → follows_at b j c d ≡ false → path_at e j d ≡ path_at b j d
  path_same zero d h = s.owns d (not_self zero d h)
  path_same (suc j) d h =
      let q = or_parts (follows_at b j c d) (in_seat (follows_at b j c) (b.seat j d)) h in
      by (λ k f. path_same j k f) q.0 (b.seat j d) (s.seats j d (not_self j d q.0)) q.1
    where
      by : ((k : ℕ) → follows_at b j c k ≡ false → path_at e j k ≡ path_at b j k) → follows_at b j c d ≡ false →
          (o : Option ℕ) → e.seat j d ≡ o → in_seat (follows_at b j c) o ≡ false → carried (path_at e j) d (e.seat j d) ≡ carried (path_at b j) d o
      by g f None z i = ap (carried (path_at e j) d) z ∙ g d f
      by g f (Some k) z i = ap (carried (path_at e j) d) z ∙ ap₂ sum (g d f) (g k i)

beside : (x : BookChange) (b : Book) → Beside (craft_of x) b (changed x b)
beside x b = by x (book_refusal x b)
  where
    by : (x : BookChange) (o : Option ℕ) → Beside (craft_of x) b (changed_unless o x b)
    by x (Some n) = record { owns = λ d n. refl; seats = λ i d n. refl }
    by (file c p) None = record { owns = λ d n. put_other b.own c d (path_of p) n; seats = λ i d n. refl }
    by (ride c j k) None = record { owns = λ d n. refl; seats = λ i d n. ridden_other b j c k i d n }

pub others_stay : OthersStay
others_stay x b d h =
    ap (λ (l : ℕ). path_at (changed x b) l d) (frames_stay x b).levels ∙ path_same (craft_of x) b (changed x b) (beside x b) b.levels d h

pub followers_stay : FollowersStay
followers_stay x b d =
    ap (λ (l : ℕ). follows_at (changed x b) l (craft_of x) d) (frames_stay x b).levels ∙ follows_same (craft_of x) b (changed x b) (beside x b) b.levels d
