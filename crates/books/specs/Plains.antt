-- Books of routes with no levels.
use Rattle.std.specs.Prelude.{◌≡◌, ℕ, zero, suc, ◌<◌, true, false, cond, List, length, get_or, replicate, Some, None, Option, ◌==◌, slice_index_or, slice_set, refl}
use Rattle.std.proofs.Common.{ap, ◌∙◌, arith, rules}
use Rattle.std.proofs.Math.Path.{fun_ext}
use Rattle.rules.specs.Basics.{put}
use Rattle.rules.specs.Paths.{Kept, standing}
use Rattle.rules.specs.Books.{Lawful}
use Rattle.plans.specs.declared.route.Route.{Route}
use Rattle.plans.proofs.Flown.{standing_kept}
use Rattle.plans.proofs.Routed.{route_kept}
use Rattle.books.specs.declared.routes.Routes.{Routes}
use Rattle.books.specs.Routes.{own_of, owns_of, routes_of}
use Rattle.books.specs.Plain.{plain_book}
use Rattle.books.specs.Sums.{kept_right}
use Rattle.books.specs.Owns.{own_lawful}

own_kept : (o : Option Route) → Kept 1 (own_of o)
own_kept None = standing_kept
own_kept (Some r) = route_kept r

pub plain_lawful : (r : Routes) (n : ℕ) → Lawful (plain_book (routes_of r) n)
plain_lawful r n = own_lawful (plain_book (routes_of r) n) (record {
  own = λ c. kept_right 0 1 (routes_of r c) (omega arith) (own_kept (slice_index_or r.table c None));
  low = omega arith;
  high = omega arith;
})

table_set : {A : Type 0} (xs : List A) (i : ℕ) (v d : A) → i < length xs → (λ k. get_or (slice_set xs i v) k d) ≡ put (λ k. get_or xs k d) i v
table_set xs i v d h = search rules

own_put : (f : ℕ → Option Route) (c : ℕ) (r : Route) (d : ℕ) → own_of (put f c (Some r) d) ≡ put (λ k. own_of (f k)) c (own_of (Some r)) d
own_put f c r d = elim (d == c) as (λ b. own_of (cond b (Some r) (f d)) ≡ cond b (own_of (Some r)) (own_of (f d))) [ true ↦ refl | false ↦ refl ]

pub owns_set : (rs : List (Option Route)) (c : ℕ) (r : Route) → c < length rs → owns_of (slice_set rs c (Some r)) ≡ put (owns_of rs) c (own_of (Some r))
owns_set rs c r h = fun_ext (λ d. ap (λ (f : ℕ → Option Route). own_of (f d)) (table_set rs c (Some r) None h) ∙ own_put (λ k. get_or rs k None) c r d)

getD_none : {A : Type 0} (n : ℕ) (d : A) (k : ℕ) → slice_index_or (replicate n d) k d ≡ d
getD_none zero d k = refl
getD_none (suc n) d zero = refl
getD_none (suc n) d (suc k) = getD_none n d k

pub owns_none : (n c : ℕ) → owns_of (replicate n None) c ≡ standing
owns_none n c = ap own_of (getD_none n None c)
