-- The list of touching pairs, entry by entry and row by row.
use Rattle.std.proofs.Common.{◌≡◌, ℕ, zero, suc, ◌+◌, ◌-◌, ◌<◌, ◌≤◌, Bool, true, false, cond, ◌&&◌, ltb, List, [], ◌∷◌, ◌++◌, map, length, drop, set, sym, refl, ap, ◌∙◌, subst, add-zero, zero-add, add-one, arith}
use Rattle.std.proofs.lemmas.List.{append-nil, append_assoc, length-append}
use Rattle.rules.specs.Basics.{those, joined, below}
use Rattle.model.specs.Halls.{Hall, in_hall, together, all_craft}
use Rattle.model.specs.Refusals.{pairs, pairs_of}
use Rattle.floor_laws.specs.Writing.{written}
use Rattle.floor_laws.proofs.Writes.{written_then, written_one, written_start, written_length}
use Rattle.accounts.proofs.Puts.{those_append, map_append}
use Rattle.runs.specs.Listing.{listed, entry, row_with, row, rows_of, Listed}

pub all_below : (n : ℕ) → n ≡ 64 → below n ≡ all_craft
unfolding all_craft
all_below n e = ap below e

-- ONE ROW

module _ (m : Hall) (c : ℕ) where
  tail : (b : Bool) (n : ℕ) → map (entry c) (cond b (n ∷ []) []) ≡ cond b (entry c n ∷ []) []
  tail true n = refl
  tail false n = refl

  abbrev last_of : ℕ → List ℕ
  last_of n = cond (listed m c n) (entry c n ∷ []) []

  grown : (n : ℕ) → row_with m c (below (suc n)) ≡ row_with m c (below n) ++ last_of n
  grown n = ap (map (entry c)) (those_append (listed m c) (below n) (n ∷ [])) ∙ map_append (entry c) (those (listed m c) (below n)) (those (listed m c) (n ∷ [])) ∙ ap (λ (xs : List ℕ). row_with m c (below n) ++ xs) (tail (listed m c n) n)

  grown_one : (n : ℕ) → row_with m c (below (n + 1)) ≡ row_with m c (below n) ++ last_of n
  grown_one n = ap (λ (i : ℕ). row_with m c (below i)) (add-one n) ∙ grown n

  pub row_hit : (n : ℕ) → listed m c n ≡ true → row_with m c (below (n + 1)) ≡ row_with m c (below n) ++ (entry c n ∷ [])
  row_hit n e = grown_one n ∙ ap (λ (b : Bool). row_with m c (below n) ++ cond b (entry c n ∷ []) []) e

  pub row_miss : (n : ℕ) → listed m c n ≡ false → row_with m c (below (n + 1)) ≡ row_with m c (below n)
  row_miss n e = grown_one n ∙ ap (λ (b : Bool). row_with m c (below n) ++ cond b (entry c n ∷ []) []) e ∙ append-nil (row_with m c (below n))

  pub long_hit : (n : ℕ) → listed m c n ≡ true → length (row_with m c (below (n + 1))) ≡ length (row_with m c (below n)) + 1
  long_hit n e = ap length (row_hit n e) ∙ length-append (row_with m c (below n)) (entry c n ∷ [])

  one_at_most : (b : Bool) (n : ℕ) → length (cond b (entry c n ∷ []) []) ≤ 1
  one_at_most true n = omega arith
  one_at_most false n = omega arith

  pub row_short : (n : ℕ) → length (row_with m c (below n)) ≤ n
  row_short zero = omega arith
  row_short (suc n) = sum _ _ _ n (ap length (grown n) ∙ length-append (row_with m c (below n)) (last_of n)) (row_short n) (one_at_most (listed m c n) n)
    where
      sum : (x y z k : ℕ) → x ≡ y + z → y ≤ k → z ≤ 1 → x ≤ suc k
      sum x y z k p q r = omega arith

  longer : (n k : ℕ) → length (row_with m c (below n)) ≤ length (row_with m c (below (n + k)))
  longer n zero = subst (λ (i : ℕ). length (row_with m c (below n)) ≤ length (row_with m c (below i))) (sym (add-zero n)) (self _)
    where
      self : (x : ℕ) → x ≤ x
      self x = omega arith
  longer n (suc k) =
      subst (λ (i : ℕ). length (row_with m c (below n)) ≤ length (row_with m c (below i))) (next n k)
      (up _ _ _ _ (longer n k) (ap length (grown (n + k)) ∙ length-append (row_with m c (below (n + k))) (last_of (n + k))))
    where
      next : (x y : ℕ) → suc (x + y) ≡ x + suc y
      next x y = omega arith

      up : (x y z w : ℕ) → x ≤ y → w ≡ y + z → x ≤ w
      up x y z w p q = omega arith

  pub row_room : (n : ℕ) → n < 64 → listed m c n ≡ true → length (row_with m c (below n)) < length (row m c)
  row_room n h e =
      under _ _ _ (long_hit n e) (longer (n + 1) (63 - n)) (ap (λ (xs : List ℕ). length (row_with m c xs)) (all_below (n + 1 + (63 - n)) (omega arith)))
    where
      under : (x y z : ℕ) → {w : ℕ} → y ≡ x + 1 → y ≤ z → z ≡ w → x < w
      under x y z p q r = omega arith

  -- the row written so far, and one entry more
  pub row_put : (k n d : ℕ) (s s₀ : List ℕ) → listed m c d ≡ true → d < 64 → k + length (row m c) ≤ length s₀ → n ≡ k + length (row_with m c (below d)) → s ≡ written k (row_with m c (below d)) s₀ →
      set s n (entry c d) ≡ written k (row_with m c (below (d + 1))) s₀
  row_put k n d s s₀ e h r i j =
      let a = row_with m c (below d) in
      let lt = row_room d h e in
      let fits : k + length a ≤ length s₀ = close k (length a) (length (row m c)) (length s₀) lt r in
      let long : length s ≡ length s₀ = ap length j ∙ written_length k a s₀ fits in
      written_one n (entry c d) s (less k (length a) (length (row m c)) (length s₀) n (length s) lt r i long)
      ∙ ap (written n (entry c d ∷ [])) j
      ∙ ap (λ (x : ℕ). written x (entry c d ∷ []) (written k a s₀)) i
      ∙ written_then k a (entry c d ∷ []) s₀ fits
      ∙ ap (λ (xs : List ℕ). written k xs s₀) (sym (row_hit d e))
    where
      close : (x y z w : ℕ) → y < z → x + z ≤ w → x + y ≤ w
      close x y z w p q = omega arith

      less : (x y z w v u : ℕ) → y < z → x + z ≤ w → v ≡ x + y → u ≡ w → v < u
      less x y z w v u p q r s = omega arith

-- ALL ROWS

joined_append : (xs ys : List (List ℕ)) → joined (xs ++ ys) ≡ joined xs ++ joined ys
joined_append [] ys = refl
joined_append (x ∷ xs) ys = ap (λ (z : List ℕ). x ++ z) (joined_append xs ys) ∙ sym (append_assoc x (joined xs) (joined ys))

module _ (m : Hall) where
  pub rows_more : (c : ℕ) → rows_of m (below (c + 1)) ≡ rows_of m (below c) ++ row m c
  rows_more c =
      ap (λ (i : ℕ). rows_of m (below i)) (add-one c)
      ∙ ap joined (map_append (row m) (below c) (c ∷ []))
      ∙ joined_append (map (row m) (below c)) (row m c ∷ [])
      ∙ ap (λ (xs : List ℕ). rows_of m (below c) ++ xs) (append-nil (row m c))

  pub rows_longer : (c : ℕ) → length (rows_of m (below (c + 1))) ≡ length (rows_of m (below c)) + length (row m c)
  rows_longer c = ap length (rows_more c) ∙ length-append (rows_of m (below c)) (row m c)

  rises : (n k : ℕ) → length (rows_of m (below n)) ≤ length (rows_of m (below (n + k)))
  rises n zero = subst (λ (i : ℕ). length (rows_of m (below n)) ≤ length (rows_of m (below i))) (sym (add-zero n)) (self _)
    where
      self : (x : ℕ) → x ≤ x
      self x = omega arith
  rises n (suc k) =
      subst (λ (i : ℕ). length (rows_of m (below n)) ≤ length (rows_of m (below i))) (next n k) (up _ _ _ _ (rises n k) (rows_longer (n + k)))
    where
      next : (x y : ℕ) → x + y + 1 ≡ x + suc y
      next x y = omega arith

      up : (x y z w : ℕ) → x ≤ y → w ≡ y + z → x ≤ w
      up x y z w p q = omega arith

  -- a row is that of an entered craft, or has no entry
  falls : (c : ℕ) (b : Bool) → in_hall m c ≡ b → (ds : List ℕ) → row_with m c ds ≡ cond b (map (entry c) (those (λ d. ltb c d && in_hall m d && together c d m) ds)) []
  falls c true e ds = ap (λ (b : Bool). map (entry c) (those (λ d. b && (ltb c d && in_hall m d && together c d m)) ds)) e
  falls c false e ds = ap (λ (b : Bool). map (entry c) (those (λ d. b && (ltb c d && in_hall m d && together c d m)) ds)) e ∙ ap (map (entry c)) (none ds)
    where
      none : (xs : List ℕ) → those (λ d. false) xs ≡ []
      none [] = refl
      none (x ∷ xs) = none xs

  listed_rows : (cs : List ℕ) → joined (map (pairs_of m) (those (in_hall m) cs)) ≡ rows_of m cs
  listed_rows [] = refl
  listed_rows (c ∷ cs) = by (listed_rows cs) (in_hall m c) refl
    where
      by : joined (map (pairs_of m) (those (in_hall m) cs)) ≡ rows_of m cs → (b : Bool) → in_hall m c ≡ b → joined (map (pairs_of m) (cond b (c ∷ those (in_hall m) cs) (those (in_hall m) cs))) ≡ row m c ++ rows_of m cs
      by rest true e = (λ t. sym (falls c true e all_craft) t ++ rest t)
      by rest false e = rest ∙ ap (λ (xs : List ℕ). xs ++ rows_of m cs) (sym (falls c false e all_craft))

  pub pairs_rows : (n : ℕ) → n ≡ 64 → rows_of m (below n) ≡ pairs m
  pairs_rows n e = ap (rows_of m) (all_below n e) ∙ sym (listed_rows all_craft)

  pub rows_room : (c : ℕ) → c < 64 → length (rows_of m (below c)) + length (row m c) ≤ length (pairs m)
  rows_room c h =
      under _ _ _ (rows_longer c) (rises (c + 1) (63 - c)) (ap length (pairs_rows (c + 1 + (63 - c)) (omega arith)))
    where
      under : (x y z : ℕ) → {w : ℕ} → y ≡ x → y ≤ z → z ≡ w → x ≤ w
      under x y z p q r = omega arith

  -- the rows written so far, and one row more
  pub rows_put : (c n r : ℕ) (s s₀ s' : List ℕ) → c < 64 → length (pairs m) ≤ length s₀ → n ≡ length (rows_of m (below c)) → s ≡ written 0 (rows_of m (below c)) s₀ → s' ≡ written n (row m c) s → r ≡ n + length (row m c) →
      (r ≡ length (rows_of m (below (c + 1)))) × (s' ≡ written 0 (rows_of m (below (c + 1))) s₀)
  rows_put c n r s s₀ s' h f i j w e =
      let a = rows_of m (below c) in
      let up = rows_room c h in (
        e ∙ ap (λ (x : ℕ). x + length (row m c)) i ∙ sym (rows_longer c),
        w ∙ ap (written n (row m c)) j ∙ ap (λ (x : ℕ). written x (row m c) (written 0 a s₀)) (i ∙ sym (zero-add (length a)))
            ∙ written_then 0 a (row m c) s₀ (close (length a) (length (row m c)) (length (pairs m)) (length s₀) up f) ∙ ap (λ (xs : List ℕ). written 0 xs s₀) (sym (rows_more c)),
      )
    where
      close : (x y z u : ℕ) → x + y ≤ z → z ≤ u → 0 + x ≤ u
      close x y z u p q = omega arith

  pub rows_done : (c n : ℕ) (s s₀ : List ℕ) → c ≡ 64 → n ≡ length (rows_of m (below c)) → s ≡ written 0 (rows_of m (below c)) s₀ → Listed m s₀ s n
  rows_done c n s s₀ e i j = record {
    count = i ∙ ap length (pairs_rows c e);
    list = j ∙ written_start (rows_of m (below c)) s₀ ∙ (λ t. pairs_rows c e t ++ drop (sym i t) s₀);
  }
