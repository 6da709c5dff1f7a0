-- The tournament: what a played match changes, and that node 1 holds the best.
use Rattle.std.specs.Prelude.{◌≡◌, ℕ, zero, suc, ◌+◌, ◌-◌, ◌*◌, ◌/◌, ◌<◌, ◌≤◌, Bool, false, cond, ◌⊎◌, List, length, replicate, Some, None, Option, ◌≢◌, slice_index_or, slice_set, refl}
use Rattle.std.proofs.Common.{sym, ap, ◌∙◌, subst, inl, inr, ⊎_elim, arith}
use mathlib.Core.HLevel.{Π_prop, →_prop}
use Rattle.std.specs.Coded.{Coded-set, coded_option}
use Rattle.std.proofs.lemmas.List.{get_or_read, get_or-set_same, get_or-set_other}
use Rattle.std.proofs.lemmas.Bool.{cases_Bool, cases_lt, cases_eq}
use Rattle.std.proofs.lemmas.Option.{none-some, same_Some}
use Rattle.queues.specs.declared.entry.Entry.{Entry}
use Rattle.queues.specs.contracts.entry.Entry as entry
use Rattle.queues.specs.Entries.{ahead, key}
use Rattle.calendar_queue.specs.Crowns.{better, node, Won, Matched, MatchedBut}
use Rattle.calendar_queue.specs.Tables.{empty_at}
use Rattle.queues.specs.EntryOrder.{keys, ahead_never}

-- entries are a set
pub entries_set : (x y : Option Entry) (p q : x ≡ y) → p ≡ q
entries_set = Coded-set (coded_option (entry.the_row).coded)

pub matched_prop : (ns : List (Option Entry)) (x y : Matched ns) → x ≡ y
matched_prop ns = Π_prop (λ i. →_prop (→_prop (entries_set _ _)))

-- where y is an entry, x is one too, and y is not ahead of it
abbrev pub Under : Option Entry → Option Entry → Type 0
Under x y = (e : Entry) → y ≡ Some e → (a : Entry) × ((x ≡ Some a) × (ahead (key e) (key a) ≡ false))

pub under_self : (x : Option Entry) → Under x x
under_self x e p = (e, (p, ahead_never (key e)))

pub under_chain : (x y z : Option Entry) → Under x y → Under y z → Under x z
under_chain x y z f g e p =
    let r = g e p in
    let s = f r.0 r.1.0 in (
      s.0,
      (
        s.1.0,
        keys.chain (key e) (key r.0) (key s.0) r.1.1 s.1.1,
      ),
    )

under_none : (x : Option Entry) → Under x None
under_none x e p = absurd (none-some e p)

under_some : (a b : Entry) → ahead (key b) (key a) ≡ false → Under (Some a) (Some b)
under_some a b h e p =
    (a, (refl, subst (λ (k : Entry). ahead (key k) (key a) ≡ false) (same_Some b e p) h))

pub better_both : (x y : Option Entry) → Under (better x y) x × Under (better x y) y
unfolding better
better_both None y = (under_none y, under_self y)
better_both (Some a) None = (under_self (Some a), under_none (Some a))
better_both (Some a) (Some b) =
    ⊎_elim
    (λ t. subst (λ (v : Bool). Under (Some (cond v b a)) (Some a) × Under (Some (cond v b a)) (Some b)) (sym t) (under_some b a (keys.one_way (key b) (key a) t), under_self (Some b)))
    (λ t. subst (λ (v : Bool). Under (Some (cond v b a)) (Some a) × Under (Some (cond v b a)) (Some b)) (sym t) (under_self (Some a), under_some a b t))
    (cases_Bool (ahead (key b) (key a)))

pub better_one : (x y : Option Entry) → (better x y ≡ x) ⊎ (better x y ≡ y)
unfolding better
better_one None y = inr refl
better_one (Some a) None = inl refl
better_one (Some a) (Some b) =
    ⊎_elim
    (λ t. inr (ap (λ v. Some (cond v b a)) t))
    (λ t. inl (ap (λ v. Some (cond v b a)) t))
    (cases_Bool (ahead (key b) (key a)))

module _ (ns : List (Option Entry)) (matched : Matched ns) where
  -- a node is under neither of those below it
  parent : (i : ℕ) → 0 < i → i < 128 → Under (node ns i) (node ns (2 * i)) × Under (node ns i) (node ns (2 * i + 1))
  parent i p l =
      subst
      (λ (x : Option Entry). Under x (node ns (2 * i)) × Under x (node ns (2 * i + 1)))
      (sym (matched i p l))
      (better_both (node ns (2 * i)) (node ns (2 * i + 1)))

  up : (k : ℕ) → 1 < k → k < 256 → Under (node ns (k / 2)) (node ns k)
  up k p l =
      ⊎_elim
      (λ (e : 2 * (k / 2) ≡ k). subst (λ (j : ℕ). Under (node ns (k / 2)) (node ns j)) e (parent (k / 2) (omega arith) (omega arith)).0)
      (λ (ne : 2 * (k / 2) ≡ k → ⊥).
      let e : 2 * (k / 2) + 1 ≡ k = omega arith in
      subst (λ (j : ℕ). Under (node ns (k / 2)) (node ns j)) e (parent (k / 2) (omega arith) (omega arith)).1)
      (cases_eq (2 * (k / 2)) k)

  best_by : (n k : ℕ) → k ≤ n → 0 < k → k < 256 → Under (node ns 1) (node ns k)
  best_by zero k h p l = absurd (omega arith)
  best_by (suc n) k h p l =
      ⊎_elim
      (λ (e : k ≡ 1). subst (λ (j : ℕ). Under (node ns 1) (node ns j)) (sym e) (under_self (node ns 1)))
      (λ (ne : k ≡ 1 → ⊥).
      under_chain (node ns 1) (node ns (k / 2)) (node ns k) (best_by n (k / 2) (omega arith) (omega arith) (omega arith)) (up k (omega arith) l))
      (cases_eq k 1)

  -- no node is ahead of node 1
  pub best : (k : ℕ) → 0 < k → k < 256 → Under (node ns 1) (node ns k)
  best k p l = best_by k k (omega arith) p l

  comes_by : (n i : ℕ) → 256 ≤ i + n → 0 < i → i < 256 → (b : ℕ) × ((b < 128) × (node ns i ≡ node ns (128 + b)))
  comes_by zero i h p l = absurd (omega arith)
  comes_by (suc n) i h p l = ⊎_elim (inner (λ j a b c. comes_by n j a b c)) leaf (cases_lt i 128)
    where
      leaf : 128 ≤ i → (b : ℕ) × ((b < 128) × (node ns i ≡ node ns (128 + b)))
      leaf g = (i - 128, (omega arith, ap (node ns) (let e : i ≡ 128 + (i - 128) = omega arith in e)))

      inner : ((j : ℕ) → 256 ≤ j + n → 0 < j → j < 256 → (b : ℕ) × ((b < 128) × (node ns j ≡ node ns (128 + b)))) → i < 128 → (b : ℕ) × ((b < 128) × (node ns i ≡ node ns (128 + b)))
      inner below g =
          ⊎_elim
          (λ e. let r = below (2 * i) (omega arith) (omega arith) (omega arith) in (r.0, (r.1.0, matched i p g ∙ e ∙ r.1.1)))
          (λ e. let r = below (2 * i + 1) (omega arith) (omega arith) (omega arith) in (r.0, (r.1.0, matched i p g ∙ e ∙ r.1.1)))
          (better_one (node ns (2 * i)) (node ns (2 * i + 1)))

  -- what node 1 holds comes from a leaf
  pub comes : (b : ℕ) × ((b < 128) × (node ns 1 ≡ node ns (128 + b)))
  comes = comes_by 256 1 (omega arith) (omega arith) (omega arith)

-- a write elsewhere leaves a match as it was
won_stays : (ns : List (Option Entry)) (j i : ℕ) (v : Option Entry) → (i ≢ j) → (2 * i ≢ j) → (2 * i + 1 ≢ j) → Won ns i → Won (slice_set ns j v) i
won_stays ns j i v n l r h =
    get_or-set_other ns j i v None n ∙ h ∙ sym (λ t. better (get_or-set_other ns j (2 * i) v None l t) (get_or-set_other ns j (2 * i + 1) v None r t))

pub leaf_set : (ns : List (Option Entry)) (k : ℕ) (v : Option Entry) → 128 ≤ k → Matched ns → MatchedBut (slice_set ns k v) (k / 2)
leaf_set ns k v h m i p l ne = won_stays ns k i v (λ e. omega arith) (λ e. ne (omega arith)) (λ e. ne (omega arith)) (m i p l)

pub match_step : (ns : List (Option Entry)) (j : ℕ) → length ns ≡ 256 → 0 < j → j < 128 → MatchedBut ns j → MatchedBut (slice_set ns j (better (node ns (2 * j)) (node ns (2 * j + 1)))) (j / 2)
match_step ns j size p l m i ip il ne = ⊎_elim here other (cases_eq i j)
  where
    won : Won (slice_set ns j (better (node ns (2 * j)) (node ns (2 * j + 1)))) j
    won =
        get_or-set_same ns j _ None (omega arith)
        ∙ sym (λ t. better (get_or-set_other ns j (2 * j) (better (node ns (2 * j)) (node ns (2 * j + 1))) None (λ e. omega arith) t) (get_or-set_other ns j (2 * j + 1) (better (node ns (2 * j)) (node ns (2 * j + 1))) None (λ e. omega arith) t))

    here : i ≡ j → Won (slice_set ns j (better (node ns (2 * j)) (node ns (2 * j + 1)))) i
    here e = subst (λ (k : ℕ). Won (slice_set ns j (better (node ns (2 * j)) (node ns (2 * j + 1)))) k) (sym e) won

    other : (i ≢ j) → Won (slice_set ns j (better (node ns (2 * j)) (node ns (2 * j + 1)))) i
    other no-j = won_stays ns j i _ no-j (λ e. ne (omega arith)) (λ e. ne (omega arith)) (m i ip il no-j)

pub all_matched : (ns : List (Option Entry)) (j : ℕ) → j ≡ 0 → MatchedBut ns j → Matched ns
all_matched ns j e m i p l = m i p l (λ q. omega arith)

pub no_matches : (n : ℕ) → Matched (replicate n None)
unfolding better
no_matches n i p l = empty_at n i ∙ sym (λ t. better (empty_at n (2 * i) t) (empty_at n (2 * i + 1) t))

-- one turn of the replay, with the two nodes as they were read
pub replayed : (ns : List (Option Entry)) (j : ℕ) (x y v : Option Entry) → length ns ≡ 256 → 0 < j → j < 128 → x ≡ slice_index_or ns (2 * j) x → y ≡ slice_index_or ns (2 * j + 1) y → v ≡ better x y → MatchedBut ns j → MatchedBut (slice_set ns j v) (j / 2)
replayed ns j x y v size p l ex ey ev m =
    subst
    (λ (w : Option Entry). MatchedBut (slice_set ns j w) (j / 2))
    (sym (ev ∙ (λ t. better (get_or_read ns (2 * j) x (omega arith) ex None t) (get_or_read ns (2 * j + 1) y (omega arith) ey None t))))
    (match_step ns j size p l m)
