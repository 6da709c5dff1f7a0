-- Walking along a bucket: every step leaves fewer slots ahead.
use Rattle.std.specs.Prelude.{◌≡◌, ℕ, zero, suc, ◌<◌, ◌≤◌, Bool, true, false, cond, ◌&&◌, List, length, Some, None, Option}
use Rattle.std.proofs.Common.{sym, ap, ◌∙◌, subst, ⊎_elim, arith}
use Rattle.std.proofs.Math.Bool.{Bool-set}
use mathlib.Core.HLevel.{Π_prop, →_prop}
use Rattle.std.proofs.Math.Bridge.{le_prop}
use Rattle.std.proofs.lemmas.List.{get_or_past}
use Rattle.std.proofs.lemmas.Bool.{both_ways, cases_Bool, cases_lt, cases_eq, and_parts, and_from, and_right}
use Rattle.times.specs.declared.moment.Moment.{Moment}
use Rattle.calendar_queue.specs.Entries.{bucket, leads, lies}
use Rattle.calendar_queue.specs.Links.{Table, table, links, stands, opens, Follows, Linked}
use Rattle.calendar_queue.specs.Order.{leads_never, leads_empty, bucket_below}
use Rattle.calendar_queue.specs.Places.{Bounded, stands_slot, stands_below, opens_slot, opens_chain}
use Rattle.calendar_queue.specs.Chains.{Right}

-- any two proofs that the links are right are one
follows_prop : (t : Table) (b p n : ℕ) (x y : Follows t b p n) → x ≡ y
follows_prop t b p n x y i = record {
  inside = →_prop (Bool-set _ _) x.inside y.inside i;
  after = →_prop (Bool-set _ _) x.after y.after i;
  some = Π_prop (λ j. →_prop (→_prop le_prop)) x.some y.some i;
  least = Π_prop (λ j. →_prop (→_prop (Bool-set _ _))) x.least y.least i;
}

pub linked_prop : (ms : List (Option Moment)) (ns : List ℕ) (x y : Linked ms ns) → x ≡ y
linked_prop ms ns = Π_prop (λ p. Π_prop (λ b. →_prop (→_prop (follows_prop (table ms) b p (links ns p)))))

pub table_bounded : (ms : List (Option Moment)) → length ms ≡ 12352 → Bounded (table ms)
table_bounded ms e k l = get_or_past ms k None (omega arith)

-- how many of the numbers below n pass
unfoldable pub count : (ℕ → Bool) → ℕ → ℕ
count p zero = 0
count p (suc n) = cond (p n) (suc (count p n)) (count p n)

pub count_le : (p q : ℕ → Bool) (n : ℕ) → ((j : ℕ) → p j ≡ true → q j ≡ true) → count p n ≤ count q n
unfolding count
count_le p q zero h = omega arith
count_le p q (suc n) h =
    let r = count_le p q n h in
    ⊎_elim
    (λ (e : p n ≡ true). let f : q n ≡ true = h n e in rw (e, f) (omega arith))
    (λ (e : p n ≡ false). ⊎_elim (λ (f : q n ≡ true). rw (e, f) (omega arith)) (λ (f : q n ≡ false). rw (e, f) (omega arith)) (cases_Bool (q n)))
    (cases_Bool (p n))

pub count_less : (p q : ℕ → Bool) (n : ℕ) → ((j : ℕ) → p j ≡ true → q j ≡ true) → (c : ℕ) → c < n → q c ≡ true → p c ≡ false → count p n < count q n
unfolding count
count_less p q zero h c l x y = absurd (omega arith)
count_less p q (suc n) h c l x y = ⊎_elim here (λ ne. earlier (count_less p q n h c (omega arith) x y)) (cases_eq c n)
  where
    here : c ≡ n → count p (suc n) < count q (suc n)
    here e =
        let f : p n ≡ false = subst (λ (k : ℕ). p k ≡ false) e y in
        let g : q n ≡ true = subst (λ (k : ℕ). q k ≡ true) e x in
        let r = count_le p q n h in
        rw (f, g) (omega arith)

    earlier : count p n < count q n → count p (suc n) < count q (suc n)
    earlier r =
        ⊎_elim
        (λ (e : p n ≡ true). let f : q n ≡ true = h n e in rw (e, f) (omega arith))
        (λ (e : p n ≡ false). ⊎_elim (λ (f : q n ≡ true). rw (e, f) (omega arith)) (λ (f : q n ≡ false). rw (e, f) (omega arith)) (cases_Bool (q n)))
        (cases_Bool (p n))

-- how many slots of bucket b come after place p
unfoldable pub ahead_of : Table → ℕ → ℕ → ℕ
ahead_of t b p = count (λ j. lies (t j) b && opens t p j (t j)) 12352

-- a step from place p towards slot x with moment m
pub record Step (t : Table) (b p n x : ℕ) (m : Moment) : Type 0 where
  pub within : n < 12352
  pub stands : stands t n b ≡ true
  pub opens : opens t n x (Some m) ≡ true
  pub less : ahead_of t b n < ahead_of t b p

pub step : (t : Table) (f : ℕ → ℕ) (b p x : ℕ) (m : Moment) → Bounded t → Right t f → b < 128 → stands t p b ≡ true → leads (f p) (t (f p)) x (Some m) ≡ true → Step t b p (f p) x m
unfolding ahead_of
step t f b p x m bd right lb sp h =
    record { within = l; stands = stands_slot t (f p) b l ∙ was.inside l; opens = opens_slot t (f p) x (Some m) l ∙ h; less = count_less _ _ 12352 fewer (f p) l mine gone }
  where
    l : f p < 12352
    l =
        ⊎_elim
        (λ k. k)
        (λ k. absurd (both_ways _ (ap (λ o. leads (f p) o x (Some m)) (bd (f p) k) ∙ leads_empty (f p) x (Some m)) h))
        (cases_lt (f p) 12352)

    was : Follows t b p (f p)
    was = right p b lb sp

    fewer : (j : ℕ) → (lies (t j) b && opens t (f p) j (t j)) ≡ true → (lies (t j) b && opens t p j (t j)) ≡ true
    fewer j e =
        let s = and_parts (lies (t j) b) (opens t (f p) j (t j)) e in
        and_from (lies (t j) b) (opens t p j (t j)) s.0 (opens_chain t p (f p) j (t (f p)) (t j) (was.after l) (sym (opens_slot t (f p) j (t j) l) ∙ s.1))

    mine : (lies (t (f p)) b && opens t p (f p) (t (f p))) ≡ true
    mine = and_from _ _ (was.inside l) (was.after l)

    gone : (lies (t (f p)) b && opens t (f p) (f p) (t (f p))) ≡ false
    gone = and_right _ _ (opens_slot t (f p) (f p) (t (f p)) l ∙ leads_never (f p) (t (f p)))

pub place_below : (t : Table) (p : ℕ) (m : Moment) → stands t p (bucket m) ≡ true → p < 12480
place_below t p m h = stands_below t p (bucket m) (bucket_below m) h
