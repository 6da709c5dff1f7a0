-- Entering takes exactly the slots that are wanted then, and leaving empties them.
use Rattle.std.proofs.Common.{◌≡◌, ℕ, ◌+◌, ◌-◌, ◌*◌, ◌<◌, ◌≤◌, min, max, Bool, true, false, cond, ◌&&◌, ltb, ◌⊎◌, List, [], ◌∷◌, ◌++◌, sym, refl, ap, ◌∙◌, subst, inl, inr, arith, ltb-false, ltb-true, le-ltb, lt-ltb}
use mathlib.Core.Bool.{and-false}
use mathlib.Core.List.Memᴰ
use native.Mathlib.Nat.{min_comm, max_comm}
use Rattle.rules.specs.Basics.{◌∈◌, put}
use Rattle.rules.specs.Paths.{Axis, X, Y, Z}
use Rattle.rules.specs.Slots.{rank, slot, leg_slot}
use Rattle.model.specs.Moves.{axis_of, lower_of, higher_of}
use Rattle.accounts.proofs.Puts.{put_here, put_other, same_or_not}
use Rattle.accounts.proofs.Slotted.{wanted, set_all, settled, Others, axis_slots, craft_slots, in_axis, slot_lower, slot_higher, slot_pair, slot_named}

-- what is wanted of a pair's slot
of_pair : (E : ℕ → Bool) (a : Axis) (c d : ℕ) → c < 64 → d < 64 → wanted E (slot a c d) ≡ E (min c d) && E (max c d) && ltb (min c d) (max c d)
of_pair E a c d p q =
    let e = lt-ltb (slot a c d) 12288 (slot_pair a c d p q) in
    let l = slot_lower a c d p q in
    let h = slot_higher a c d p q in
    λ i. cond (e i) (E (l i) && E (h i) && ltb (l i) (h i)) (E (slot a c d - 12288))

pub pair_wanted : (E : ℕ → Bool) (a : Axis) (c d : ℕ) → c < 64 → d < 64 → (d ≡ c → ⊥) → E c ≡ true → E d ≡ true → wanted E (slot a c d) ≡ true
pair_wanted E a c d p q ne ec ed = of_pair E a c d p q ∙ by (ltb c d) refl
  where
    by : (b : Bool) → ltb c d ≡ b → E (min c d) && E (max c d) && ltb (min c d) (max c d) ≡ true
    by true g =
        let h = ltb-true c d g in
        let u : min c d ≡ c = omega arith in
        let v : max c d ≡ d = omega arith in
        (λ i. E (u i) && E (v i) && ltb (u i) (v i)) ∙ (λ i. ec i && ed i && g i)
    by false g =
        let h = ltb-false c d g in
        let u : min c d ≡ d = omega arith in
        let v : max c d ≡ c = omega arith in
        let w = lt-ltb d c (omega arith) in
        (λ i. E (u i) && E (v i) && ltb (u i) (v i)) ∙ (λ i. ed i && ec i && w i)

pub pair_unwanted : (E : ℕ → Bool) (a : Axis) (c d : ℕ) → c < 64 → d < 64 → E c ≡ false → wanted E (slot a c d) ≡ false
pair_unwanted E a c d p q ec = of_pair E a c d p q ∙ by (ltb c d) refl
  where
    none : (x y : Bool) → x && false && y ≡ false
    none true y = refl
    none false y = refl

    by : (b : Bool) → ltb c d ≡ b → E (min c d) && E (max c d) && ltb (min c d) (max c d) ≡ false
    by true g =
        let h = ltb-true c d g in
        let u : min c d ≡ c = omega arith in
        (λ i. E (u i) && E (max c d) && ltb (min c d) (max c d)) ∙ (λ i. ec i && E (max c d) && ltb (min c d) (max c d))
    by false g =
        let h = ltb-false c d g in
        let v : max c d ≡ c = omega arith in
        (λ i. E (min c d) && E (v i) && ltb (min c d) (max c d)) ∙ (λ i. E (min c d) && ec i && ltb (min c d) (max c d)) ∙ none (E (min c d)) (ltb (min c d) (max c d))

pub leg_wanted : (E : ℕ → Bool) (c : ℕ) → wanted E (leg_slot c) ≡ E c
leg_wanted E c =
    let e = le-ltb (leg_slot c) 12288 (omega arith) in
    let q : leg_slot c - 12288 ≡ c = omega arith in
    (λ i. cond (e i) (E (lower_of (leg_slot c)) && E (higher_of (leg_slot c)) && ltb (lower_of (leg_slot c)) (higher_of (leg_slot c))) (E (q i)))

-- nothing is wanted above the last slot
pub none_above : (E : ℕ → Bool) → ((c : ℕ) → 64 ≤ c → E c ≡ false) → (s : ℕ) → 12352 ≤ s → wanted E s ≡ false
none_above E h s p =
    let e = le-ltb s 12288 (omega arith) in
    (λ i. cond (e i) (E (lower_of s) && E (higher_of s) && ltb (lower_of s) (higher_of s)) (E (s - 12288))) ∙ h (s - 12288) (omega arith)

-- ds are exactly the entered craft other than c
pub record Around (E : ℕ → Bool) (c : ℕ) (ds : List ℕ) : Type 0 where
  pub others : Others c ds
  pub entered : (d : ℕ) → d ∈ ds → E d ≡ true
  pub all : (d : ℕ) → d < 64 → E d ≡ true → (d ≡ c → ⊥) → d ∈ ds

module _ (E : ℕ → Bool) (c : ℕ) (ds : List ℕ) (o : Around E c ds) where
  pub on_axis : (a : Axis) (d : ℕ) → d ∈ ds → slot a c d ∈ craft_slots c ds
  on_axis X d e = Memᴰ.append_left _ (Memᴰ.map (slot X c) e)
  on_axis Y d e = Memᴰ.append_right (axis_slots c ds X) (Memᴰ.append_left _ (Memᴰ.map (slot Y c) e))
  on_axis Z d e = Memᴰ.append_right (axis_slots c ds X) (Memᴰ.append_right (axis_slots c ds Y) (Memᴰ.append_left _ (Memᴰ.map (slot Z c) e)))

  pub on_leg : leg_slot c ∈ craft_slots c ds
  on_leg = Memᴰ.append_right (axis_slots c ds X) (Memᴰ.append_right (axis_slots c ds Y) (Memᴰ.append_right (axis_slots c ds Z) (Memᴰ.head refl)))

  -- P holds of each of the craft's slots
  pub each_slot : (P : ℕ → Type 0) → ((a : Axis) (d : ℕ) → d ∈ ds → P (slot a c d)) → P (leg_slot c) → (s : ℕ) → s ∈ craft_slots c ds → P s
  each_slot P p q s e = x_case (Memᴰ.append_cases (axis_slots c ds X) e)
    where
      axis : (a : Axis) → s ∈ axis_slots c ds a → P s
      axis a g = let w = in_axis c ds o.others a s g in subst P w.2 (p a w.0 w.1)

      z_case : (s ∈ axis_slots c ds Z) ⊎ (s ∈ (leg_slot c ∷ [])) → P s
      z_case (inl g) = axis Z g
      z_case (inr g) = subst P (sym (Memᴰ.eq_of_singleton g)) q

      y_case : (s ∈ axis_slots c ds Y) ⊎ (s ∈ (axis_slots c ds Z ++ (leg_slot c ∷ []))) → P s
      y_case (inl g) = axis Y g
      y_case (inr g) = z_case (Memᴰ.append_cases (axis_slots c ds Z) g)

      x_case : (s ∈ axis_slots c ds X) ⊎ (s ∈ (axis_slots c ds Y ++ (axis_slots c ds Z ++ (leg_slot c ∷ [])))) → P s
      x_case (inl g) = axis X g
      x_case (inr g) = y_case (Memᴰ.append_cases (axis_slots c ds Y) g)

  -- a slot that is none of the craft's is wanted as before, whether the craft is entered or not
  pub elsewhere : (v : Bool) (s : ℕ) → (s ∈ craft_slots c ds → ⊥) → wanted E s ≡ wanted (put E c v) s
  elsewhere v s out = by (ltb s 12288) refl
    where
      other : (j : ℕ) → (j ≡ c → ⊥) → put E c v j ≡ E j
      other j ne = put_other E c v j ne

      none : (x y : Bool) → x && false && y ≡ false
      none true y = refl
      none false y = refl

      no_high : (x x' y y' z : Bool) → y ≡ false → y' ≡ false → x && y && z ≡ x' && y' && z
      no_high x x' y y' z p q = (λ i. x && p i && z) ∙ none x z ∙ sym (none x' z) ∙ (λ i. x' && sym q i && z)

      no_low : (x x' y y' z : Bool) → x ≡ false → x' ≡ false → x && y && z ≡ x' && y' && z
      no_low x x' y y' z p q = (λ i. p i && y && z) ∙ (λ i. sym q i && y' && z)

      -- the craft is the lower one, or the higher one
      low : s < 12288 → lower_of s < higher_of s → lower_of s ≡ c → (b : Bool) → E (higher_of s) ≡ b → E (higher_of s) ≡ false
      low p q e false g = g
      low p q e true g =
          let ne : higher_of s ≡ c → ⊥ = λ r. omega arith in
          let here = on_axis (axis_of s) (higher_of s) (o.all (higher_of s) (omega arith) g ne) in
          absurd (out (subst (λ (t : ℕ). t ∈ craft_slots c ds) (ap (λ (k : ℕ). slot (axis_of s) k (higher_of s)) (sym e) ∙ slot_named s p (omega arith)) here))

      high : s < 12288 → lower_of s < higher_of s → higher_of s ≡ c → (b : Bool) → E (lower_of s) ≡ b → E (lower_of s) ≡ false
      high p q e false g = g
      high p q e true g =
          let ne : lower_of s ≡ c → ⊥ = λ r. omega arith in
          let here = on_axis (axis_of s) (lower_of s) (o.all (lower_of s) (omega arith) g ne) in
          let turn : slot (axis_of s) c (lower_of s) ≡ slot (axis_of s) (lower_of s) c = (λ i. 4096 * rank (axis_of s) + 64 * min_comm c (lower_of s) i + max_comm c (lower_of s) i) in
          absurd (out (subst (λ (t : ℕ). t ∈ craft_slots c ds) (turn ∙ ap (λ (k : ℕ). slot (axis_of s) (lower_of s) k) (sym e) ∙ slot_named s p (omega arith)) here))

      pair : s < 12288 → lower_of s < higher_of s → (lower_of s ≡ c) ⊎ (lower_of s ≡ c → ⊥) → (higher_of s ≡ c) ⊎ (higher_of s ≡ c → ⊥) → (z : Bool) →
          E (lower_of s) && E (higher_of s) && z ≡ put E c v (lower_of s) && put E c v (higher_of s) && z
      pair p q (inl e) g z =
          let none-high = low p q e (E (higher_of s)) refl in
          no_high (E (lower_of s)) (put E c v (lower_of s)) (E (higher_of s)) (put E c v (higher_of s)) z none-high (other (higher_of s) (λ r. omega arith) ∙ none-high)
      pair p q (inr e) (inl g) z =
          let none-low = high p q g (E (lower_of s)) refl in
          no_low (E (lower_of s)) (put E c v (lower_of s)) (E (higher_of s)) (put E c v (higher_of s)) z none-low (other (lower_of s) e ∙ none-low)
      pair p q (inr e) (inr g) z = λ i. sym (other (lower_of s) e) i && sym (other (higher_of s) g) i && z

      order : s < 12288 → (z : Bool) → ltb (lower_of s) (higher_of s) ≡ z →
          E (lower_of s) && E (higher_of s) && z ≡ put E c v (lower_of s) && put E c v (higher_of s) && z
      order p true q = pair p (ltb-true (lower_of s) (higher_of s) q) (same_or_not (lower_of s) c) (same_or_not (higher_of s) c) true
      order p false q = and-false (E (lower_of s) && E (higher_of s)) ∙ sym (and-false (put E c v (lower_of s) && put E c v (higher_of s)))

      by : (b : Bool) → ltb s 12288 ≡ b → cond b (E (lower_of s) && E (higher_of s) && ltb (lower_of s) (higher_of s)) (E (s - 12288)) ≡ cond b (put E c v (lower_of s) && put E c v (higher_of s) && ltb (lower_of s) (higher_of s)) (put E c v (s - 12288))
      by true e = order (ltb-true s 12288 e) (ltb (lower_of s) (higher_of s)) refl
      by false e = leg (same_or_not (s - 12288) c)
        where
          leg : (s - 12288 ≡ c) ⊎ (s - 12288 ≡ c → ⊥) → E (s - 12288) ≡ put E c v (s - 12288)
          leg (inl q) = let h = ltb-false s 12288 e in let r : leg_slot c ≡ s = omega arith in absurd (out (subst (λ (t : ℕ). t ∈ craft_slots c ds) r on_leg))
          leg (inr q) = sym (other (s - 12288) q)

  -- the craft's own slots are wanted exactly where it is entered
  pub own_slots : (F : ℕ → Bool) → ((d : ℕ) → d ∈ ds → F d ≡ true) → (v : Bool) → F c ≡ v → (s : ℕ) → s ∈ craft_slots c ds → wanted F s ≡ v
  own_slots F in-ds true e = each_slot (λ s. wanted F s ≡ true) (λ a d g. pair_wanted F a c d o.others.self (o.others.range d g) (o.others.not_self d g) e (in-ds d g)) (leg_wanted F c ∙ e)
  own_slots F in-ds false e = each_slot (λ s. wanted F s ≡ false) (λ a d g. pair_unwanted F a c d o.others.self (o.others.range d g) e) (leg_wanted F c ∙ e)

  -- after all of the craft's slots are taken, or emptied, the slots are taken as wanted then
  pub moved : (v : Bool) (s : ℕ) → set_all v (craft_slots c ds) (wanted E) s ≡ wanted (put E c v) s
  moved v s = by (settled v (craft_slots c ds) (wanted E) s)
    where
      by : ((s ∈ craft_slots c ds) × (set_all v (craft_slots c ds) (wanted E) s ≡ v)) ⊎ ((s ∈ craft_slots c ds → ⊥) × (set_all v (craft_slots c ds) (wanted E) s ≡ wanted E s)) → set_all v (craft_slots c ds) (wanted E) s ≡ wanted (put E c v) s
      by (inl h) = h.1 ∙ sym (own_slots (put E c v) (λ d e. put_other E c v d (o.others.not_self d e) ∙ o.entered d e) v (put_here E c v) s h.0)
      by (inr h) = h.1 ∙ elsewhere v s h.0
