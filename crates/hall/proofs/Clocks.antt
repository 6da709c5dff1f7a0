-- Clocks and goals.
use Rattle.std.proofs.Common.{◌≡◌, ℕ, ◌*◌, ◌<◌, ◌≤◌, Bool, true, false, cond, not, ◌||◌, eqb, ltb, is_lt, nat_cmp, is_some, Some, None, Ok, Err, Option, Result, sym, refl, ap, ◌∙◌, subst, arith}
use mathlib.Core.Path.{fun_ext}
use borrow.Author.Tests.{both_ways}
use Rattle.std.proofs.lemmas.Bool.{ltb-true, lt-ltb, le-ltb, eqb-false, or_parts}
use Rattle.rules.specs.Fractions.{Fraction, Proper, SameTime, is_before, least, no_time, time_made}
use Rattle.rules.specs.Stamps.{Stamp}
use Rattle.rules.specs.Books.{Book}
use Rattle.rules.specs.Slots.{Queue, first}
use Rattle.rules.proofs.Order.{not_after_before}
use Rattle.rules.proofs.Made.{least_right}
use Rattle.times.specs.declared.time.Time.{Time}
use Rattle.times.specs.Of.{time_of}
use Rattle.times.specs.Orders.{time_cmp}
use Rattle.queues.specs.Meanings.{soonest, is_nothing}
use Rattle.queues.specs.Laws.{Held}
use Rattle.queues.proofs.Firsts.{empty_right, soonest_first}
use Rattle.model.specs.Halls.{Clock, quiet, Hall, State, opened}
use Rattle.model.specs.Calls.{setting}
use Rattle.model.specs.Refusals.{not_mine, refusal, opening_refusal}
use Rattle.hall.proofs.Rows.{here, later}
use Rattle.tables.specs.Tables.{empty}
use Rattle.floor.specs.Of.{joined, due_told}
use Rattle.queues.specs.declared.entry.Entry.{Entry}

-- equal times are before the same times
pub same_before : (r s t : Fraction) → Proper r → Proper s → SameTime r s → is_before r t ≡ is_before s t
same_before r s t p q e = by (is_before r t) (is_before s t) refl refl where
  by : (a b : Bool) → is_before r t ≡ a → is_before s t ≡ b → a ≡ b
  by true true u v = refl
  by true false u v = absurd (both_ways _ v (lt-ltb _ _ (not_after_before s r t q p (omega (arith, e)) (ltb-true _ _ u))))
  by false true u v = absurd (both_ways _ u (lt-ltb _ _ (not_after_before r s t p q (omega (arith, e)) (ltb-true _ _ v))))
  by false false u v = refl

-- a goal as given lies before a time just where it does in least terms
pub goal_before : (n d : ℕ) (t : Fraction) → no_time n d ≡ false → is_before (record { num = n; den = d }) t ≡ is_before (least n d) t
goal_before n d t e =
    let o = or_parts (eqb d 0 || ltb 16000 d) (ltb (50000 * d) n) e in
    let z = eqb-false d 0 (or_parts (eqb d 0) (ltb 16000 d) o.0).0 in
    let w : 0 < d = omega (arith, z) in
    let l = least_right n d w in
    same_before (record { num = n; den = d }) (least n d) t w l.proper (sym l.same)

-- whether there is a first
pub first_some : (q : Queue) → is_some (first q) ≡ not (is_nothing (soonest q))
first_some q = by (first q) ∙ ap (λ (o : Option (ℕ × Stamp)). not (is_nothing o)) (sym (soonest_first q)) where
  by : (o : Option (ℕ × Stamp)) → is_some o ≡ not (is_nothing o)
  by None = refl
  by (Some p) = refl

pub told_some : (o : Option Entry) → is_some o ≡ is_some (due_told o)
told_some None = refl
told_some (Some p) = refl

-- over an empty queue the hall is as it opens
pub opened_is : (b : Book) (q : Queue) (m : Hall) → Held q → is_nothing (soonest q) ≡ true → m ≡ joined b q empty → (k : Clock) → k ≡ (opened b).clock → ◌≡◌ {A = State} (record { hall = m; clock = k }) (opened b)
opened_is b q m held e p k f i = record {
  hall = (p ∙ ap (λ (x : Queue). joined b x empty) (fun_ext ((empty_right q held).0 e))) i;
  clock = f i;
}

-- SETTING

-- a time that was made is the goal in least terms
pub record Made (n d : ℕ) (g : Fraction) : Type 0 where
  pub some : no_time n d ≡ false
  pub is : g ≡ least n d

abbrev got : Fraction → Result Fraction ℕ → Fraction
got t (Ok g) = g
got t (Err e) = t

abbrev IsOk : Result Fraction ℕ → Type 0
IsOk (Ok g) = Unit {0}
IsOk (Err e) = ⊥

pub made : (n d : ℕ) (g : Fraction) → Ok g ≡ time_made n d → Made n d g
made n d g e = by (no_time n d) refl e where
  by : (b : Bool) → no_time n d ≡ b → ◌≡◌ {A = Result Fraction ℕ} (Ok g) (cond b (Err 11) (Ok (least n d))) → Made n d g
  by true p q = absurd (subst IsOk q tt)
  by false p q = record { some = p; is = ap (got g) q }

-- the order of times is that of their fractions
is_lt_of : (x y : ℕ) → is_lt (nat_cmp x y) ≡ ltb x y
is_lt_of x y = by (ltb x y) (eqb x y) refl refl
  where
    by : (a b : Bool) → ltb x y ≡ a → eqb x y ≡ b → is_lt (nat_cmp x y) ≡ ltb x y
    by true b e f = rw e refl
    by false true e f = rw (e, f) refl
    by false false e f = rw (e, f) refl

pub before_of : (s t : Time) → is_lt (time_cmp s t) ≡ is_before (time_of s) (time_of t)
before_of s t = is_lt_of (s.n * t.d) (t.n * s.d)

pub set_past : (t : Fraction) (n d : ℕ) (z : State) (g : Fraction) → not_mine z (quiet t) ≡ false → Ok g ≡ time_made n d → is_before g t ≡ true → refusal (setting t n d) z ≡ Some 12
set_past t n d z g e f p = let m = made n d g f in later 1 _ _ _ e (later 11 _ _ _ m.some (here 12 _ _ (goal_before n d t m.some ∙ ap (λ (x : Fraction). is_before x t) (sym m.is) ∙ p)))

pub set_none : (t : Fraction) (n d : ℕ) (z : State) (g : Fraction) → not_mine z (quiet t) ≡ false → Ok g ≡ time_made n d → is_before g t ≡ false → refusal (setting t n d) z ≡ None
set_none t n d z g e f p = let m = made n d g f in later 1 _ _ _ e (later 11 _ _ _ m.some (later 12 _ _ None (goal_before n d t m.some ∙ ap (λ (x : Fraction). is_before x t) (sym m.is) ∙ p) refl))

-- OPENING

pub open_scale : (b : Book) (q : Queue) → 8 < b.scale → opening_refusal b q ≡ Some 17
open_scale b q h = here 17 _ _ (lt-ltb 8 b.scale h)

pub open_holds : (b : Book) (q : Queue) → b.scale ≤ 8 → is_nothing (soonest q) ≡ false → opening_refusal b q ≡ Some 18
open_holds b q h e = later 17 _ _ _ (le-ltb 8 b.scale h) (here 18 _ _ (first_some q ∙ ap not e))

pub open_none : (b : Book) (q : Queue) → b.scale ≤ 8 → is_nothing (soonest q) ≡ true → opening_refusal b q ≡ None
open_none b q h e = later 17 _ _ _ (le-ltb 8 b.scale h) (later 18 _ _ None (first_some q ∙ ap not e) refl)
