-- The ledger: the numbers in the slots, the queue, the last number, and the lines told.
-- Granting into an empty slot and taking from a full one keep it true.
use Rattle.std.proofs.Common.{◌≡◌, ℕ, suc, ◌+◌, ◌*◌, ◌/◌, ◌%◌, ◌≤◌, Bool, true, false, cond, eqb, ◌⊎◌, List, [], ◌∷◌, ◌++◌, map, None, Option, sym, refl, ap, ◌∙◌, subst, inl, inr, append-nil, arith, eq-eqb, ne_eqb, eqb-true}
use mathlib.Core.List.Memᴰ
use borrow.Author.Tests.{eqb-false}
use Rattle.rules.specs.Basics.{◌∈◌, those, below, put, InTurn}
use Rattle.rules.specs.Stamps.{Stamp}
use Rattle.rules.specs.Slots.{Queue}
use Rattle.rules.specs.Books.{Book}
use Rattle.model.specs.Halls.{Hall, empty_hall}
use Rattle.model.specs.Moves.{granted, fired, withdrawn, grant, take_away}
use Rattle.accounts.proofs.Puts.{put_here, put_other, same_or_not, those_append, map_append, turn_append, turn_one}

pub record Ledger : Type 0 where
  pub number : ℕ → ℕ
  pub queue : Queue
  pub last : ℕ
  pub lines : List ℕ

abbrev pub ledger : Hall → List ℕ → Ledger
ledger m ls = record { number = m.number; queue = m.queue; last = m.last; lines = ls }

abbrev pub IsGrant : ℕ → Bool
IsGrant l = eqb (l % 4) 1

-- of two lines of one number the earlier is its grant, the later is not
abbrev pub Turn : ℕ → ℕ → Type 0
Turn x y = x / 4 ≡ y / 4 → (x % 4 ≡ 1) × ¬ (y % 4 ≡ 1)

pub record Told (l : Ledger) : Type 0 where
  -- an empty slot has nothing queued
  pub empty : (s : ℕ) → l.number s ≡ 0 → l.queue s ≡ None
  pub known : (s : ℕ) → l.number s ≤ l.last
  pub apart : (s t : ℕ) → 1 ≤ l.number s → l.number s ≡ l.number t → s ≡ t
  pub grants : those IsGrant l.lines ≡ map (λ n. granted (suc n)) (below l.last)
  pub turns : InTurn Turn l.lines
  pub others : (x : ℕ) → x ∈ l.lines → (1 ≤ x % 4) × (1 ≤ x / 4) × (x / 4 ≤ l.last)
  -- a number that stands has no line but its grant
  pub open_still : (s : ℕ) → 1 ≤ l.number s → (x : ℕ) → x ∈ l.lines → x / 4 ≡ l.number s → x % 4 ≡ 1
  -- every number granted stands, or was fired, or was withdrawn
  pub covered : (n : ℕ) → 1 ≤ n → n ≤ l.last → ((s : ℕ) × (l.number s ≡ n)) ⊎ ((fired n ∈ l.lines) ⊎ (withdrawn n ∈ l.lines))

turn_more : (xs : List ℕ) (y : ℕ) → InTurn Turn xs → ((x : ℕ) → x ∈ xs → Turn x y) → InTurn Turn (xs ++ (y ∷ []))
turn_more xs y h g = turn_append Turn xs (y ∷ []) h (turn_one Turn y) (λ x z p q. subst (λ (w : ℕ). Turn x w) (sym (Memᴰ.eq_of_singleton q)) (g x p))

pub granting : (s : ℕ) (f : Option Stamp) (m : Hall) (ls : List ℕ) → m.number s ≡ 0 → Told (ledger m ls) → Told (ledger (grant s f m).hall (ls ++ (grant s f m).lines))
granting s f m ls free h = record {
  empty = λ j q. hollow j (eqb j s) q;
  known = λ j. within j (eqb j s);
  apart = λ i j p q. distinct i j (eqb i s) (eqb j s) refl refl p q;
  grants = those_append IsGrant ls (y ∷ []) ∙ (λ i. h.grants i ++ one i) ∙ sym (map_append (λ n. granted (suc n)) (below m.last) (m.last ∷ []));
  turns = turn_more ls y h.turns (λ x e q. let o = h.others x e in absurd (omega arith));
  others = λ x e. right x (Memᴰ.append_cases ls e);
  open_still = λ j p x e q. still j (eqb j s) p x (Memᴰ.append_cases ls e) q;
  covered = λ n p q. cover n p q (same_or_not n (suc m.last));
}
  where
    y : ℕ
    y = suc m.last * 4 + 1

    one : those IsGrant (y ∷ []) ≡ y ∷ []
    one = ap (λ (b : Bool). cond b (y ∷ []) []) (eq-eqb (y % 4) 1 (omega arith))

    hollow : (j : ℕ) (b : Bool) → cond b (suc m.last) (m.number j) ≡ 0 → cond b f (m.queue j) ≡ None
    hollow j true q = absurd (omega arith)
    hollow j false q = h.empty j q

    within : (j : ℕ) (b : Bool) → cond b (suc m.last) (m.number j) ≤ suc m.last
    within j true = omega arith
    within j false = let k = h.known j in omega arith

    distinct : (i j : ℕ) (x y : Bool) → eqb i s ≡ x → eqb j s ≡ y → 1 ≤ cond x (suc m.last) (m.number i) → cond x (suc m.last) (m.number i) ≡ cond y (suc m.last) (m.number j) → i ≡ j
    distinct i j true true p q e g = eqb-true i s p ∙ sym (eqb-true j s q)
    distinct i j true false p q e g = let k = h.known j in absurd (omega arith)
    distinct i j false true p q e g = let k = h.known i in absurd (omega arith)
    distinct i j false false p q e g = h.apart i j e g

    right : (x : ℕ) → (x ∈ ls) ⊎ (x ∈ (y ∷ [])) → (1 ≤ x % 4) × (1 ≤ x / 4) × (x / 4 ≤ suc m.last)
    right x (inl e) = let o = h.others x e in (omega arith, omega arith, omega arith)
    right x (inr e) = let q : x ≡ y = Memᴰ.eq_of_singleton e in (omega arith, omega arith, omega arith)

    still : (j : ℕ) (b : Bool) → 1 ≤ cond b (suc m.last) (m.number j) → (x : ℕ) → (x ∈ ls) ⊎ (x ∈ (y ∷ [])) → x / 4 ≡ cond b (suc m.last) (m.number j) → x % 4 ≡ 1
    still j b p x (inr g) q = let u : x ≡ y = Memᴰ.eq_of_singleton g in omega arith
    still j true p x (inl g) q = let o = h.others x g in absurd (omega arith)
    still j false p x (inl g) q = h.open_still j p x g q

    cover : (n : ℕ) → 1 ≤ n → n ≤ suc m.last → (n ≡ suc m.last) ⊎ (n ≡ suc m.last → ⊥) →
        ((t : ℕ) × (put m.number s (suc m.last) t ≡ n)) ⊎ ((fired n ∈ (ls ++ (y ∷ []))) ⊎ (withdrawn n ∈ (ls ++ (y ∷ []))))
    cover n p q (inl e) = inl (s, put_here m.number s (suc m.last) ∙ sym e)
    cover n p q (inr e) = by (h.covered n p (omega arith))
      where
        by : ((t : ℕ) × (m.number t ≡ n)) ⊎ ((fired n ∈ ls) ⊎ (withdrawn n ∈ ls)) →
            ((t : ℕ) × (put m.number s (suc m.last) t ≡ n)) ⊎ ((fired n ∈ (ls ++ (y ∷ []))) ⊎ (withdrawn n ∈ (ls ++ (y ∷ []))))
        by (inl t) = inl (t.0, put_other m.number s (suc m.last) t.0 (λ g. let u : m.number t.0 ≡ m.number s = ap m.number g in let v = t.1 in omega arith) ∙ t.1)
        by (inr (inl g)) = inr (inl (Memᴰ.append_left (y ∷ []) g))
        by (inr (inr g)) = inr (inr (Memᴰ.append_left (y ∷ []) g))

abbrev pub Ends : (ℕ → ℕ) → Type 0
Ends line = (line ≡ fired) ⊎ (line ≡ withdrawn)

ended : (line : ℕ → ℕ) → Ends line → (n : ℕ) → (line n / 4 ≡ n) × (2 ≤ line n % 4)
ended line (inl e) n = let q : line n ≡ n * 4 + 2 = ap (λ (f : ℕ → ℕ). f n) e in (omega arith, omega arith)
ended line (inr e) n = let q : line n ≡ n * 4 + 3 = ap (λ (f : ℕ → ℕ). f n) e in (omega arith, omega arith)

pub taking : (line : ℕ → ℕ) → Ends line → (s : ℕ) (m : Hall) (ls : List ℕ) → 1 ≤ m.number s → Told (ledger m ls) → Told (ledger (take_away line s m).hall (ls ++ (take_away line s m).lines))
taking line e s m ls full h = record {
  empty = λ j q. hollow j (eqb j s) q;
  known = λ j. within j (eqb j s);
  apart = λ i j p q. distinct i j (eqb i s) (eqb j s) p q;
  grants = those_append IsGrant ls (y ∷ []) ∙ ap (λ (zs : List ℕ). those IsGrant ls ++ zs) none ∙ append-nil (those IsGrant ls) ∙ h.grants;
  turns = turn_more ls y h.turns (λ x g r. let o = shape in (h.open_still s full x g (omega arith), omega arith));
  others = λ x g. right x (Memᴰ.append_cases ls g);
  open_still = λ i p x g r. still i (eqb i s) refl p x (Memᴰ.append_cases ls g) r;
  covered = λ n p q. cover n (h.covered n p q);
}
  where
    y : ℕ
    y = line (m.number s)

    shape : (y / 4 ≡ m.number s) × (2 ≤ y % 4)
    shape = ended line e (m.number s)

    none : those IsGrant (y ∷ []) ≡ []
    none = ap (λ (b : Bool). cond b (y ∷ []) []) (ne_eqb (y % 4) 1 (λ g. let o = shape in omega arith))

    hollow : (j : ℕ) (b : Bool) → cond b 0 (m.number j) ≡ 0 → cond b None (m.queue j) ≡ None
    hollow j true q = refl
    hollow j false q = h.empty j q

    within : (j : ℕ) (b : Bool) → cond b 0 (m.number j) ≤ m.last
    within j true = omega arith
    within j false = h.known j

    distinct : (i j : ℕ) (x y : Bool) → 1 ≤ cond x 0 (m.number i) → cond x 0 (m.number i) ≡ cond y 0 (m.number j) → i ≡ j
    distinct i j true b p q = absurd (omega arith)
    distinct i j false true p q = absurd (omega arith)
    distinct i j false false p q = h.apart i j p q

    right : (x : ℕ) → (x ∈ ls) ⊎ (x ∈ (y ∷ [])) → (1 ≤ x % 4) × (1 ≤ x / 4) × (x / 4 ≤ m.last)
    right x (inl g) = h.others x g
    right x (inr g) =
        let u : x ≡ y = Memᴰ.eq_of_singleton g in
        let o = h.known s in
        let w = shape in
        subst (λ (z : ℕ). (1 ≤ z % 4) × (1 ≤ z / 4) × (z / 4 ≤ m.last)) (sym u) (omega arith, omega arith, omega arith)

    still : (i : ℕ) (b : Bool) → eqb i s ≡ b → 1 ≤ cond b 0 (m.number i) → (x : ℕ) → (x ∈ ls) ⊎ (x ∈ (y ∷ [])) → x / 4 ≡ cond b 0 (m.number i) → x % 4 ≡ 1
    still i true q p x g r = absurd (omega arith)
    still i false q p x (inl g) r = h.open_still i p x g r
    still i false q p x (inr g) r =
        let u : x ≡ y = Memᴰ.eq_of_singleton g in
        let v : x / 4 ≡ y / 4 = ap (λ (z : ℕ). z / 4) u in
        let w = shape in
        absurd (eqb-false i s q (h.apart i s p (omega arith)))

    kind : (n : ℕ) → m.number s ≡ n → Ends line → (fired n ∈ (ls ++ (y ∷ []))) ⊎ (withdrawn n ∈ (ls ++ (y ∷ [])))
    kind n q (inl g) = inl (Memᴰ.append_right ls (Memᴰ.head (sym (ap (λ (f : ℕ → ℕ). f (m.number s)) g ∙ ap fired q))))
    kind n q (inr g) = inr (Memᴰ.append_right ls (Memᴰ.head (sym (ap (λ (f : ℕ → ℕ). f (m.number s)) g ∙ ap withdrawn q))))

    cover : (n : ℕ) → ((t : ℕ) × (m.number t ≡ n)) ⊎ ((fired n ∈ ls) ⊎ (withdrawn n ∈ ls)) →
        ((t : ℕ) × (put m.number s 0 t ≡ n)) ⊎ ((fired n ∈ (ls ++ (y ∷ []))) ⊎ (withdrawn n ∈ (ls ++ (y ∷ []))))
    cover n (inl t) = by (same_or_not t.0 s)
      where
        by : (t.0 ≡ s) ⊎ (t.0 ≡ s → ⊥) → ((t : ℕ) × (put m.number s 0 t ≡ n)) ⊎ ((fired n ∈ (ls ++ (y ∷ []))) ⊎ (withdrawn n ∈ (ls ++ (y ∷ []))))
        by (inl g) = inr (kind n (sym (ap m.number g) ∙ t.1) e)
        by (inr g) = inl (t.0, put_other m.number s 0 t.0 g ∙ t.1)
    cover n (inr (inl g)) = inr (inl (Memᴰ.append_left (y ∷ []) g))
    cover n (inr (inr g)) = inr (inr (Memᴰ.append_left (y ∷ []) g))

pub opened_told : (b : Book) → Told (ledger (empty_hall b) [])
opened_told b = record { empty = λ s q. refl; known = λ s. omega arith; apart = λ s t p q. absurd (omega arith); grants = refl; turns = tt; others = λ x e. absurd (Memᴰ.not-nil e); open_still = λ s p. absurd (omega arith); covered = λ n p q. absurd (omega arith) }
