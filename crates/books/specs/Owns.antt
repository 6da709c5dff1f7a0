-- A book whose own paths are right is lawful, and stays so under every change.
use Rattle.std.specs.Prelude.{◌≡◌, ℕ, zero, suc, ◌+◌, Bool, true, false, cond, not, List, [], ◌∷◌, Some, None, Option, ◌==◌, nat_lt, refl}
use Rattle.std.proofs.Common.{sym, subst, arith}
use Rattle.rules.specs.Basics.{put, first_fit}
use Rattle.rules.specs.Paths.{Path, Kept}
use Rattle.rules.specs.Plans.{path_of, plan_right}
use Rattle.rules.specs.Books.{Book, BookChange, file, ride, changed, changed_by, changed_unless, book_refusal, out_of_range, path, path_at, carried}
use Rattle.plans.proofs.Flown.{plan_kept}
use Rattle.books.specs.Right.{Right, OwnRight}
use Rattle.books.specs.Laws.{OwnLawful, FramesStay}
use Rattle.books.specs.Sums.{right_sum, right_fewer, right_kept, kept_right}

-- with k levels still to come, the path at level j leaves room for k doublings
pub path_right : (b : Book) (own : (c : ℕ) → Right b.levels b.scale (b.own c)) (j k c : ℕ) → j + k ≡ b.levels → Right k b.scale (path_at b j c)
path_right b own zero k c e = subst (λ (l : ℕ). Right l b.scale (b.own c)) (sym (omega arith)) (own c)
path_right b own (suc j) k c e = by (λ d. path_right b own j (suc k) d (omega arith)) (b.seat j c)
  where
    by : ((d : ℕ) → Right (suc k) b.scale (path_at b j d)) → (o : Option ℕ) → Right k b.scale (carried (path_at b j) c o)
    by h None = right_fewer k b.scale (path_at b j c) (h c)
    by h (Some d) = right_sum (path_at b j c) (path_at b j d) k b.scale (h c) (h d)

-- an accepted plan keeps its rules
pub accepted_right : (a b c : Bool) → first_fit ((2, a) ∷ (8, not b) ∷ (9, c) ∷ []) ≡ None → b ≡ true
accepted_right true b c e = absurd (let z : ◌≡◌ {A = ℕ} 0 1 = cc in omega arith)
accepted_right false true c e = refl
accepted_right false false c e = absurd (let z : ◌≡◌ {A = ℕ} 0 1 = cc in omega arith)

put_right : (P : Path → Type 0) (f : ℕ → Path) (c : ℕ) (p : Path) → P p → ((d : ℕ) → P (f d)) → (d : ℕ) → P (put f c p d)
put_right P f c p h g d = elim (d == c) as (λ b. P (cond b p (f d))) [ true ↦ h | false ↦ g d ]

pub changed_right : (x : BookChange) (b : Book) → OwnRight b → OwnRight (changed x b)
changed_right x b r = by x (book_refusal x b) refl
  where
    by : (x : BookChange) (o : Option ℕ) → book_refusal x b ≡ o → OwnRight (changed_unless o x b)
    by x (Some n) e = r
    by (file c p) None e = record {
      own = put_right (Right b.levels b.scale) b.own c (path_of p)
          (kept_right b.levels b.scale (path_of p) r.low (plan_kept p (accepted_right (out_of_range c) (plan_right p) (nat_lt b.limit p.count) e)))
          r.own;
      low = r.low;
      high = r.high;
    }
    by (ride c j k) None e = record { own = r.own; low = r.low; high = r.high }

pub frames_stay : FramesStay
frames_stay x b = let f = by x (book_refusal x b) in record { levels = f.0; limit = f.1; scale = f.2 }
  where
    by : (x : BookChange) (o : Option ℕ) → ((changed_unless o x b).levels ≡ b.levels) × ((changed_unless o x b).limit ≡ b.limit) × ((changed_unless o x b).scale ≡ b.scale)
    by x (Some n) = (refl, refl, refl)
    by (file c p) None = (refl, refl, refl)
    by (ride c j k) None = (refl, refl, refl)

pub own_kept : (b : Book) → OwnRight b → (c : ℕ) → Kept b.scale (path b c)
own_kept b r c = right_kept b.scale (path b c) (path_right b r.own b.levels 0 c (omega arith))

changed_by_kept : (xs : List BookChange) (b : Book) → OwnRight b → (c : ℕ) → Kept b.scale (path (changed_by xs b) c)
changed_by_kept [] b r c = own_kept b r c
changed_by_kept (x ∷ xs) b r c = subst (λ (s : ℕ). Kept s (path (changed_by xs (changed x b)) c)) (frames_stay x b).scale (changed_by_kept xs (changed x b) (changed_right x b r) c)

pub own_lawful : OwnLawful
own_lawful b r = record { paths = λ xs c. changed_by_kept xs b r c; low = r.low; high = r.high }
