-- Places of a bucket: its start, and the slots that lie in it.
use Rattle.std.specs.Prelude.{◌≡◌, ℕ, ◌+◌, ◌<◌, ◌≤◌, true, cond, ◌⊎◌, None, Option, ◌==◌, ◌≢◌, nat_lt, refl}
use Rattle.std.proofs.Common.{sym, ap, ◌∙◌, subst, inl, inr, ⊎_elim, arith}
use Rattle.std.proofs.lemmas.Bool.{both_ways, cases_Bool, cases_lt, lt-ltb, le-ltb, eq-eqb, eqb-true}
use Rattle.times.specs.declared.moment.Moment.{Moment}
use Rattle.calendar_queue.specs.Entries.{leads, lies}
use Rattle.calendar_queue.specs.Links.{Table, stands, opens, Follows}
use Rattle.calendar_queue.specs.Order.{leads_chain, leads_never, leads_total, lies_none, lies_one}

-- no slot above the last holds a moment
abbrev pub Bounded : Table → Type 0
Bounded t = (k : ℕ) → 12352 ≤ k → t k ≡ None

pub lies_slot : (t : Table) (j b : ℕ) → Bounded t → lies (t j) b ≡ true → j < 12352
lies_slot t j b bd h =
    ⊎_elim
    (λ l. l)
    (λ g. absurd (both_ways (lies (t j) b) (ap (λ o. lies o b) (bd j g) ∙ lies_none b) h))
    (cases_lt j 12352)

pub stands_slot : (t : Table) (p b : ℕ) → p < 12352 → stands t p b ≡ lies (t p) b
unfolding stands
stands_slot t p b l = let e = lt-ltb p 12352 l in rw e

pub stands_start : (t : Table) (p b : ℕ) → 12352 ≤ p → stands t p b ≡ (p == 12352 + b)
unfolding stands
stands_start t p b l = let e = le-ltb p 12352 l in rw e

pub opens_slot : (t : Table) (p j : ℕ) (o : Option Moment) → p < 12352 → opens t p j o ≡ leads p (t p) j o
unfolding opens
opens_slot t p j o l = let e = lt-ltb p 12352 l in rw e

pub opens_start : (t : Table) (p j : ℕ) (o : Option Moment) → 12352 ≤ p → opens t p j o ≡ true
unfolding opens
opens_start t p j o l = let e = le-ltb p 12352 l in rw e

-- only the moment at the place itself counts
pub stands_at : (t u : Table) (p b : ℕ) → t p ≡ u p → stands t p b ≡ stands u p b
unfolding stands
stands_at t u p b e = ap (λ o. cond (nat_lt p 12352) (lies o b) (p == 12352 + b)) e

pub opens_at : (t u : Table) (p j : ℕ) (o : Option Moment) → t p ≡ u p → opens t p j o ≡ opens u p j o
unfolding opens
opens_at t u p j o e = ap (λ x. cond (nat_lt p 12352) (leads p x j o) true) e

pub stands_one : (t : Table) (p a b : ℕ) → stands t p a ≡ true → stands t p b ≡ true → a ≡ b
stands_one t p a b h g =
    ⊎_elim
    (λ l. lies_one (t p) a b (sym (stands_slot t p a l) ∙ h) (sym (stands_slot t p b l) ∙ g))
    (λ l.
    let x = eqb-true p (12352 + a) (sym (stands_start t p a l) ∙ h) in
    let y = eqb-true p (12352 + b) (sym (stands_start t p b l) ∙ g) in
    omega arith)
    (cases_lt p 12352)

pub stands_below : (t : Table) (p b : ℕ) → b < 128 → stands t p b ≡ true → p < 12480
stands_below t p b l h =
    ⊎_elim
    (λ k. omega arith)
    (λ k. let x = eqb-true p (12352 + b) (sym (stands_start t p b k) ∙ h) in omega arith)
    (cases_lt p 12352)

pub begins : (t : Table) (b : ℕ) → stands t (12352 + b) b ≡ true
begins t b = stands_start t (12352 + b) b (omega arith) ∙ eq-eqb (12352 + b) (12352 + b) refl

pub opens_chain : (t : Table) (p j k : ℕ) (y z : Option Moment) → opens t p j y ≡ true → leads j y k z ≡ true → opens t p k z ≡ true
opens_chain t p j k y z h g =
    ⊎_elim
    (λ l. opens_slot t p k z l ∙ leads_chain p j k (t p) y z (sym (opens_slot t p j y l) ∙ h) g)
    (λ l. opens_start t p k z l)
    (cases_lt p 12352)

-- of two places of a bucket, one comes first
abbrev pub Comes : Table → ℕ → ℕ → ℕ → Type 0
Comes t b p q = (lies (t q) b ≡ true) × (opens t p q (t q) ≡ true)

pub places_total : (t : Table) (p q b : ℕ) → stands t p b ≡ true → stands t q b ≡ true → (p ≢ q) → Comes t b p q ⊎ Comes t b q p
places_total t p q b h g ne = ⊎_elim low high (cases_lt p 12352)
  where
    low : p < 12352 → Comes t b p q ⊎ Comes t b q p
    low l = ⊎_elim both one (cases_lt q 12352)
      where
        lp : lies (t p) b ≡ true
        lp = sym (stands_slot t p b l) ∙ h

        both : q < 12352 → Comes t b p q ⊎ Comes t b q p
        both k =
            let lq : lies (t q) b ≡ true = sym (stands_slot t q b k) ∙ g in
            ⊎_elim
            (λ e. inl (lq, opens_slot t p q (t q) l ∙ e))
            (λ e. inr (lp, opens_slot t q p (t p) k ∙ leads_total p q b b (t p) (t q) lp lq ne e))
            (cases_Bool (leads p (t p) q (t q)))

        one : 12352 ≤ q → Comes t b p q ⊎ Comes t b q p
        one k = inr (lp, opens_start t q p (t p) k)

    high : 12352 ≤ p → Comes t b p q ⊎ Comes t b q p
    high l =
        ⊎_elim
        (λ k. inl (sym (stands_slot t q b k) ∙ g, opens_start t p q (t q) l))
        (λ k.
        let x = eqb-true p (12352 + b) (sym (stands_start t p b l) ∙ h) in
        let y = eqb-true q (12352 + b) (sym (stands_start t q b k) ∙ g) in
        absurd (ne (omega arith)))
        (cases_lt q 12352)

pub follows_at : (t : Table) (a b p q m n : ℕ) → a ≡ b → p ≡ q → m ≡ n → Follows t a p m → Follows t b q n
follows_at t a b p q m n e f g x =
    subst (λ (k : ℕ). Follows t b q k) g (subst (λ (k : ℕ). Follows t b k m) f (subst (λ (k : ℕ). Follows t k p m) e x))

-- a place of a bucket is not an empty slot, and a place that comes before a slot is another
pub apart_empty : (t : Table) (p x b : ℕ) → x < 12352 → t x ≡ None → stands t p b ≡ true → p ≢ x
apart_empty t p x b l e s q =
    both_ways _
    (ap (λ o. lies o b) e ∙ lies_none b)
    (sym (stands_slot t x b l) ∙ subst (λ (k : ℕ). stands t k b ≡ true) q s)

pub apart_opens : (t : Table) (p x : ℕ) → x < 12352 → opens t p x (t x) ≡ true → p ≢ x
apart_opens t p x l o q =
    both_ways _ (leads_never x (t x)) (sym (opens_slot t x x (t x) l) ∙ subst (λ (k : ℕ). opens t k x (t x) ≡ true) q o)
