-- Which refusal fits, and what a change then comes to.
use Rattle.std.proofs.Common.{◌≡◌, ℕ, ◌<◌, ◌≤◌, Bool, true, false, cond, None, Ok, Err, Option, Result, sym, refl, ap, ◌∙◌, arith}
use Rattle.std.proofs.lemmas.Bool.{lt-leb, lt-ltb, le-ltb}
use Rattle.rules.specs.Paths.{Axis, Line, Path}
use Rattle.rules.specs.Plans.{Plan, path_of, plan_right}
use Rattle.rules.specs.Books.{Book, BookChange, file, changed, changed_unless, carried_out, book_refusal, out_of_range}
use native.Mathlib.Decide.{dec_lt}
use Rattle.fleet.specs.Numbers.{craft_made}
use Rattle.plans.specs.Routes.{route_made}

pub accepted_done : (x : BookChange) (b : Book) → book_refusal x b ≡ None → carried_out x b ≡ changed x b
accepted_done x b e = sym (ap (λ (o : Option ℕ). changed_unless o x b) e)

-- what making a route says of the plan
pub made_ok : (p : Plan) (q : Path) → Ok q ≡ route_made p → (plan_right p ≡ true) × (q ≡ path_of p)
made_ok p q = by (plan_right p)
  where
    by : (b : Bool) → ◌≡◌ {A = Result Path ℕ} (Ok q) (cond b (Ok (path_of p)) (Err 8)) → (b ≡ true) × (q ≡ path_of p)
    by true e = (refl, cc)
    by false e = let z : ◌≡◌ {A = ℕ} 0 1 = cc in absurd (omega arith)

-- what making a craft says of its number
pub craft_ok : (n m : ℕ) → Ok m ≡ craft_made n → (n < 64) × (m ≡ n)
craft_ok n m e = by (dec_lt n 64)
  where
    by : Dec (n < 64) → (n < 64) × (m ≡ n)
    by (yes h) = (h, let z = sym (ap (λ (b : Bool). cond {A = Result ℕ ℕ} b (Ok n) (Err 2)) (lt-ltb n 64 h)) in let y = e ∙ sym z in cc)
    by (no h) = let z = e ∙ ap (λ (b : Bool). cond {A = Result ℕ ℕ} b (Ok n) (Err 2)) (le-ltb n 64 (omega arith)) in let y : ◌≡◌ {A = ℕ} 0 1 = cc in absurd (omega arith)

module _ (c : ℕ) (p : Plan) (b : Book) (h : c < 64) where
  in_range : out_of_range c ≡ false
  in_range = lt-leb 64 c h

  pub file_done : plan_right p ≡ true → p.count ≤ b.limit → book_refusal (file c p) b ≡ None
  file_done e l = rw (in_range, e, le-ltb b.limit p.count l) refl

pub leg_in_range : (c : ℕ) (x : (Axis → Line) × Option ℕ) → c < 64 → ◌≡◌ {A = Result ((Axis → Line) × Option ℕ) ℕ} (Ok x) (cond (out_of_range c) (Err 2) (Ok x))
leg_in_range c x h = sym (ap (λ (t : Bool). cond {A = Result ((Axis → Line) × Option ℕ) ℕ} t (Err 2) (Ok x)) (lt-leb 64 c h))
