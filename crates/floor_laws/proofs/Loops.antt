-- A move for each craft that passes a test, as a loop over all craft makes it.
use Rattle.std.proofs.Common.{◌≡◌, ℕ, zero, suc, ◌+◌, ◌-◌, ◌<◌, ◌≤◌, Bool, true, false, cond, not, ◌&&◌, eqb, List, [], ◌∷◌, ◌++◌, length, is_some, Option, sym, refl, ap, ◌∙◌, subst, add-zero, add-suc, add-one, arith}
use mathlib.Core.Path.{fun_ext}
use Rattle.std.proofs.lemmas.List.{append_assoc, append-nil}
use Rattle.rules.specs.Basics.{those, below, put}
use Rattle.model.specs.Halls.{Craft, Hall, others, with_craft, all_craft}
use Rattle.rules.specs.Paths.{Axis, X, Y, Z}
use Rattle.model.specs.Moves.{Out, then, silent, each, on_axes}
use Rattle.floor_laws.specs.Writing.{Move, Wrote, Fits, Grows, Leaves, other, where_so, if_other}
use Rattle.floor_laws.proofs.Writes.{written_none, written_length, out_≡, wrote_silent, wrote_as, fits_as, wrote_then, fits_first, fits_second, first_room, grows_then}

pub those_append : {A : Type 0} (p : A → Bool) (xs ys : List A) → those p (xs ++ ys) ≡ those p xs ++ those p ys
those_append p [] ys = refl
those_append {A} p (x ∷ xs) ys = go (p x) (those_append p xs ys)
  where
    go : (b : Bool) → those p (xs ++ ys) ≡ those p xs ++ those p ys → cond b (x ∷ those p (xs ++ ys)) (those p (xs ++ ys)) ≡ cond b (x ∷ those p xs) (those p xs) ++ those p ys
    go true e = ap (λ (zs : List A). x ∷ zs) e
    go false e = e

pub each_append : (f : ℕ → Move) (xs ys : List ℕ) (m : Hall) → each f (xs ++ ys) m ≡ then (each f xs) (each f ys) m
each_append f [] ys m = out_≡ _ _ refl refl
each_append f (x ∷ xs) ys m =
    let e = each_append f xs ys (f x m).hall in
    out_≡ _ _ (ap (λ (o : Out). o.hall) e)
    (ap (λ (o : Out). (f x m).lines ++ o.lines) e ∙ sym (append_assoc (f x m).lines _ _))

each_one : (f : ℕ → Move) (d : ℕ) (m : Hall) → each f (d ∷ []) m ≡ f d m
each_one f d m = out_≡ _ _ refl (append-nil (f d m).lines)

module _ (f : ℕ → Move) (p : ℕ → Bool) where
  -- for each craft below d that passes
  abbrev pub prefix : ℕ → Move
  prefix d = each f (those p (below d))

  prefix_suc : (d : ℕ) (m : Hall) → prefix (suc d) m ≡ then (prefix d) (each f (those p (d ∷ []))) m
  prefix_suc d m = ap (λ (xs : List ℕ). each f xs m) (those_append p (below d) (d ∷ [])) ∙ each_append f (those p (below d)) (those p (d ∷ [])) m

  those_one : (d : ℕ) → p d ≡ true → those p (d ∷ []) ≡ d ∷ []
  those_one d e = ap (λ (b : Bool). cond b (d ∷ []) []) e

  those_none : (d : ℕ) → p d ≡ false → those p (d ∷ []) ≡ []
  those_none d e = ap (λ (b : Bool). cond b (d ∷ []) []) e

  then_as : (g h k : Move) (m : Hall) → ((x : Hall) → h x ≡ k x) → then g h m ≡ then g k m
  then_as g h k m e = ap (λ (o : Out). record { hall = o.hall; lines = (g m).lines ++ o.lines }) (e (g m).hall)

  prefix_more : (d : ℕ) (m : Hall) → p d ≡ true → prefix (d + 1) m ≡ then (prefix d) (f d) m
  prefix_more d m e =
      ap (λ (k : ℕ). prefix k m) (add-one d) ∙ prefix_suc d m
      ∙ then_as (prefix d) _ (f d) m (λ x. ap (λ (xs : List ℕ). each f xs x) (those_one d e) ∙ each_one f d x)

  prefix_skip : (d : ℕ) (m : Hall) → p d ≡ false → prefix (d + 1) m ≡ prefix d m
  prefix_skip d m e =
      ap (λ (k : ℕ). prefix k m) (add-one d) ∙ ap (λ (xs : List ℕ). each f xs m) (those_append p (below d) (d ∷ []) ∙ ap (λ (ys : List ℕ). those p (below d) ++ ys) (those_none d e) ∙ append-nil (those p (below d)))

  -- the prefix is part of the whole
  rest_of : (d k : ℕ) → (ys : List ℕ) × (those p (below (d + k)) ≡ those p (below d) ++ ys)
  rest_of d zero = ([], ap (λ (n : ℕ). those p (below n)) (add-zero d) ∙ sym (append-nil (those p (below d))))
  rest_of d (suc k) =
      let r = rest_of d k in (
        r.0 ++ those p ((d + k) ∷ []),
        ap (λ (n : ℕ). those p (below n)) (add-suc d k) ∙ those_append p (below (d + k)) ((d + k) ∷ [])
            ∙ ap (λ (ys : List ℕ). ys ++ those p ((d + k) ∷ [])) r.1 ∙ append_assoc (those p (below d)) r.0 _,
      )

  pub grows_each : ((d : ℕ) → Grows (f d)) → (ds : List ℕ) → Grows (each f ds)
  grows_each up [] m = omega arith
  grows_each up (d ∷ ds) m = omega (arith, up d m, grows_each up ds (f d m).hall)

  pub fits_prefix : ((d : ℕ) → Grows (f d)) → (d e n : ℕ) (m : Hall) (s : List ℕ) → d ≤ e → Fits (prefix e) n m s → Fits (prefix d) n m s
  fits_prefix up d e n m s h x =
      let r = rest_of d (e - d) in
      let k : e ≡ d + (e - d) = omega arith in
      let q : those p (below e) ≡ those p (below d) ++ r.0 = ap (λ (j : ℕ). those p (below j)) k ∙ r.1 in
      fits_first (prefix d) (each f r.0) n m s (grows_each up r.0)
      (fits_as (prefix e) (then (prefix d) (each f r.0)) n m m s (ap (λ (xs : List ℕ). each f xs m) q ∙ each_append f (those p (below d)) r.0 m) x)

  pub loop_none : (n : ℕ) (m : Hall) (s : List ℕ) → Wrote (prefix 0) n m m s s n
  loop_none n m s = wrote_silent (prefix 0) n m s refl

  pub loop_skip : (d n : ℕ) (m m₁ : Hall) (s s₁ : List ℕ) (r : ℕ) → p d ≡ false → Wrote (prefix d) n m m₁ s s₁ r → Wrote (prefix (d + 1)) n m m₁ s s₁ r
  loop_skip d n m m₁ s s₁ r e w = wrote_as (prefix (d + 1)) (prefix d) n m m m₁ s s₁ r (prefix_skip d m e) w

  -- room for the next craft, out of the room for all
  pub loop_fits : ((d : ℕ) → Grows (f d)) → (d e n : ℕ) (m m₁ : Hall) (s s₁ : List ℕ) (r : ℕ) → p d ≡ true → d < e → Fits (prefix e) n m s → Wrote (prefix d) n m m₁ s s₁ r → Fits (f d) r m₁ s₁
  loop_fits up d e n m m₁ s s₁ r t h x w =
      fits_second (prefix d) (f d) n m m₁ s s₁ r (fits_as (prefix (d + 1)) (then (prefix d) (f d)) n m m s (prefix_more d m t) (fits_prefix up (d + 1) e n m s (omega arith) x)) w

  pub loop_more : ((d : ℕ) → Grows (f d)) → (d e n : ℕ) (m m₁ m₂ : Hall) (s s₁ s₂ : List ℕ) (r r₂ : ℕ) → p d ≡ true → d < e → Fits (prefix e) n m s → Wrote (prefix d) n m m₁ s s₁ r → Wrote (f d) r m₁ m₂ s₁ s₂ r₂ → Wrote (prefix (d + 1)) n m m₂ s s₂ r₂
  loop_more up d e n m m₁ m₂ s s₁ s₂ r r₂ t h x w v =
      wrote_as (prefix (d + 1)) (then (prefix d) (f d)) n m m m₂ s s₂ r₂ (prefix_more d m t)
      (wrote_then (prefix d) (f d) n m m₁ m₂ s s₁ s₂ r r₂ (fits_prefix up d e n m s (omega arith) x).room w v)

pub leaves_each : (f : ℕ → Move) → ((d : ℕ) → Leaves (f d)) → (ds : List ℕ) → Leaves (each f ds)
leaves_each f l [] m = (refl, refl)
leaves_each f l (d ∷ ds) m =
    let a = l d m in let b = leaves_each f l ds (f d m).hall in
    (b.0 ∙ a.0, b.1 ∙ a.1)

-- LOOPS OVER THE OTHER ENTERED CRAFT, by moves that leave the craft

pub others_craft : (c : ℕ) (m m' : Hall) → m'.craft ≡ m.craft → others c m' ≡ others c m
unfolding all_craft
others_craft c m m' e = ap (λ (f : ℕ → Option Craft). those (λ d. is_some (f d) && not (eqb d c)) (below 64)) e

pub others_with : (c : ℕ) (o : Option Craft) (m : Hall) → others c (with_craft c o m) ≡ others c m
unfolding all_craft
others_with c o m = ap (λ (p : ℕ → Bool). those p (below 64)) (fun_ext same)
  where
    same : (d : ℕ) → is_some (put m.craft c o d) && not (eqb d c) ≡ is_some (m.craft d) && not (eqb d c)
    same d = go (eqb d c)
      where
        ends_false : (x y : Bool) → x && false ≡ y && false
        ends_false true true = refl
        ends_false true false = refl
        ends_false false true = refl
        ends_false false false = refl

        go : (b : Bool) → is_some (cond b o (m.craft d)) && not b ≡ is_some (m.craft d) && not b
        go true = ends_false (is_some o) (is_some (m.craft d))
        go false = refl

-- one turn of such a loop
module _ (f : ℕ → Move) (c d n : ℕ) (m : Hall) (s : List ℕ) where
  turn_is : (b : Bool) → other c m d ≡ b → if_other c f d m ≡ where_so b (f d) m
  turn_is b t = ap (λ (v : Bool). where_so v (f d) m) t

  pub other_none : other c m d ≡ false → Wrote (if_other c f d) n m m s s n
  other_none t = wrote_silent (if_other c f d) n m s (turn_is false t)

  pub other_fits : other c m d ≡ true → Fits (if_other c f d) n m s → Fits (f d) n m s
  other_fits t x = fits_as (if_other c f d) (f d) n m m s (turn_is true t) x

  pub other_some : (m' : Hall) (s' : List ℕ) (r : ℕ) → other c m d ≡ true → Wrote (f d) n m m' s s' r → Wrote (if_other c f d) n m m' s s' r
  other_some m' s' r t w = wrote_as (if_other c f d) (f d) n m m m' s s' r (turn_is true t) w

module _ (f : ℕ → Move) (up : (d : ℕ) → Grows (f d)) (lv : (d : ℕ) → Leaves (f d)) (c n : ℕ) (m₀ : Hall) (s₀ : List ℕ) where
  -- the loop has come to d
  abbrev pub At : ℕ → Hall → List ℕ → ℕ → Type 0
  At d m s r = Wrote (prefix f (other c m₀) d) n m₀ m s₀ s r

  pub at_start : At 0 m₀ s₀ n
  at_start = loop_none f (other c m₀) n m₀ s₀

  pub at_end : (d : ℕ) (m : Hall) (s : List ℕ) (r : ℕ) → 64 ≤ d → d ≤ 64 → At d m s r → Wrote (each f (others c m₀)) n m₀ m s₀ s r
  unfolding all_craft
  at_end d m s r h k w = let e : d ≡ 64 = omega arith in subst (λ (x : ℕ). At x m s r) e w

  at_test : (d e : ℕ) (m : Hall) (s : List ℕ) (r : ℕ) → At d m s r → other c m e ≡ other c m₀ e
  at_test d e m s r w =
      ap (λ (g : ℕ → Option Craft). is_some (g e) && not (eqb e c)) (ap (λ (h : Hall). h.craft) w.hall ∙ (leaves_each f lv (those (other c m₀) (below d)) m₀).0)

  module _ (x : Fits (each f (others c m₀)) n m₀ s₀) (d : ℕ) (h : d < 64) (m : Hall) (s : List ℕ) (r : ℕ) (w : At d m s r) where
    so_is : (b : Bool) → other c m d ≡ b → if_other c f d m ≡ where_so b (f d) m
    so_is b t = ap (λ (v : Bool). where_so v (f d) m) t

    pub at_room : Fits (if_other c f d) r m s
    unfolding all_craft
    at_room = go (other c m d) refl
      where
        now : Fits (prefix f (other c m₀) d) n m₀ s₀
        now = fits_prefix f (other c m₀) up d 64 n m₀ s₀ (omega arith) x

        long : length s ≡ length s₀
        long = ap length w.slip ∙ written_length n _ s₀ now.room

        go : (b : Bool) → other c m d ≡ b → Fits (if_other c f d) r m s
        go true t = fits_as (f d) (if_other c f d) r m m s (sym (so_is true t)) (loop_fits f (other c m₀) up d 64 n m₀ m s₀ s r (sym (at_test d d m s r w) ∙ t) h x w)
        go false t = fits_as silent (if_other c f d) r m m s (sym (so_is false t))
            (record { room = omega (arith, now.room, w.count, long); numbers = subst (λ (z : Hall). z.last ≤ 20000000) (sym w.hall) now.numbers })

    pub at_step : (m' : Hall) (s' : List ℕ) (r' : ℕ) → Wrote (if_other c f d) r m m' s s' r' → At (d + 1) m' s' r'
    unfolding all_craft
    at_step m' s' r' v = go (other c m d) refl
      where
        go : (b : Bool) → other c m d ≡ b → At (d + 1) m' s' r'
        go true t = loop_more f (other c m₀) up d 64 n m₀ m m' s₀ s s' r r' (sym (at_test d d m s r w) ∙ t) h x w (wrote_as (f d) (if_other c f d) r m m m' s s' r' (sym (so_is true t)) v)
        go false t =
            let q = loop_skip f (other c m₀) d n m₀ m s₀ s r (sym (at_test d d m s r w) ∙ t) w in
            let o = wrote_as silent (if_other c f d) r m m m' s s' r' (sym (so_is false t)) v in
            record { hall = o.hall ∙ q.hall; slip = o.slip ∙ written_none r s ∙ q.slip; count = o.count ∙ add-zero r ∙ q.count }

-- TWO MOVES OVER THE OTHERS, the first of which leaves the craft

module _ (f g : ℕ → Move) (lv : (d : ℕ) → Leaves (f d)) (up : (d : ℕ) → Grows (g d)) (c n : ℕ) (m : Hall) (s : List ℕ) (x : Fits (then (each f (others c m)) (each g (others c m))) n m s) where
  pub both_first : Fits (each f (others c m)) n m s
  both_first = fits_first (each f (others c m)) (each g (others c m)) n m s (grows_each g (λ _. true) up (others c m)) x

  module _ (m₁ : Hall) (s₁ : List ℕ) (r : ℕ) (w : Wrote (each f (others c m)) n m m₁ s s₁ r) where
    same : others c m₁ ≡ others c m
    same = others_craft c m m₁ (ap (λ (h : Hall). h.craft) w.hall ∙ (leaves_each f lv (others c m) m).0)

    pub both_second : Fits (each g (others c m₁)) r m₁ s₁
    both_second = fits_as (each g (others c m)) (each g (others c m₁)) r m₁ m₁ s₁ (ap (λ (ds : List ℕ). each g ds m₁) (sym same)) (fits_second (each f (others c m)) (each g (others c m)) n m m₁ s s₁ r x w)

    pub both_wrote : (m₂ : Hall) (s₂ : List ℕ) (r₂ : ℕ) → Wrote (each g (others c m₁)) r m₁ m₂ s₁ s₂ r₂ → Wrote (then (each f (others c m)) (each g (others c m))) n m m₂ s s₂ r₂
    both_wrote m₂ s₂ r₂ v =
        wrote_then (each f (others c m)) (each g (others c m)) n m m₁ m₂ s s₁ s₂ r r₂ (first_room (each f (others c m)) (each g (others c m)) n m s x) w
        (wrote_as (each g (others c m)) (each g (others c m₁)) r m₁ m₁ m₂ s₁ s₂ r₂ (ap (λ (ds : List ℕ). each g ds m₁) (sym same)) v)

-- A LOOP WITH A TEST THAT STAYS

module _ (f : ℕ → Move) (up : (d : ℕ) → Grows (f d)) (p : ℕ → Bool) (n : ℕ) (m₀ : Hall) (s₀ : List ℕ) (x : Fits (prefix f p 64) n m₀ s₀) (d : ℕ) (h : d < 64) (m : Hall) (s : List ℕ) (r : ℕ) (w : Wrote (prefix f p d) n m₀ m s₀ s r) where
  pub so_room : (b : Bool) → p d ≡ b → Fits (where_so b (f d)) r m s
  so_room true t = loop_fits f p up d 64 n m₀ m s₀ s r t h x w
  so_room false t = record { room = omega (arith, now.room, w.count, long); numbers = subst (λ (z : Hall). z.last ≤ 20000000) (sym w.hall) now.numbers }
    where
      now : Fits (prefix f p d) n m₀ s₀
      now = fits_prefix f p up d 64 n m₀ s₀ (omega arith) x

      long : length s ≡ length s₀
      long = ap length w.slip ∙ written_length n _ s₀ now.room

  pub so_step : (b : Bool) → p d ≡ b → (m' : Hall) (s' : List ℕ) (r' : ℕ) → Wrote (where_so b (f d)) r m m' s s' r' → Wrote (prefix f p (d + 1)) n m₀ m' s₀ s' r'
  so_step true t m' s' r' v = loop_more f p up d 64 n m₀ m m' s₀ s s' r r' t h x w v
  so_step false t m' s' r' v =
      let q = loop_skip f p d n m₀ m s₀ s r t w in
      record { hall = v.hall ∙ q.hall; slip = v.slip ∙ written_none r s ∙ q.slip; count = v.count ∙ add-zero r ∙ q.count }

-- THREE AXES: a move over the others on each, all of which leave the craft

module _ (F : Axis → List ℕ → Move) (lv : (a : Axis) (ds : List ℕ) → Leaves (F a ds)) (up : (a : Axis) (ds : List ℕ) → Grows (F a ds)) (c n : ℕ) (m : Hall) (s : List ℕ)
    (x : Fits (on_axes (λ a. F a (others c m))) n m s) where
  abbrev rest : Move
  rest = then (F Y (others c m)) (F Z (others c m))

  pub axes_x : Fits (F X (others c m)) n m s
  axes_x = fits_first (F X (others c m)) rest n m s (grows_then (F Y (others c m)) (F Z (others c m)) (up Y (others c m)) (up Z (others c m))) x

  module _ (m₁ : Hall) (s₁ : List ℕ) (r₁ : ℕ) (w₁ : Wrote (F X (others c m)) n m m₁ s s₁ r₁) where
    still₁ : others c m₁ ≡ others c m
    still₁ = others_craft c m m₁ (ap (λ (h : Hall). h.craft) w₁.hall ∙ (lv X (others c m) m).0)

    x₁ : Fits rest r₁ m₁ s₁
    x₁ = fits_second (F X (others c m)) rest n m m₁ s s₁ r₁ x w₁

    pub axes_y : Fits (F Y (others c m₁)) r₁ m₁ s₁
    axes_y = fits_as (F Y (others c m)) (F Y (others c m₁)) r₁ m₁ m₁ s₁ (ap (λ (ds : List ℕ). F Y ds m₁) (sym still₁)) (fits_first (F Y (others c m)) (F Z (others c m)) r₁ m₁ s₁ (up Z (others c m)) x₁)

    module _ (m₂ : Hall) (s₂ : List ℕ) (r₂ : ℕ) (w₂ : Wrote (F Y (others c m₁)) r₁ m₁ m₂ s₁ s₂ r₂) where
      v₂ : Wrote (F Y (others c m)) r₁ m₁ m₂ s₁ s₂ r₂
      v₂ = wrote_as (F Y (others c m)) (F Y (others c m₁)) r₁ m₁ m₁ m₂ s₁ s₂ r₂ (ap (λ (ds : List ℕ). F Y ds m₁) (sym still₁)) w₂

      still₂ : others c m₂ ≡ others c m
      still₂ = others_craft c m₁ m₂ (ap (λ (h : Hall). h.craft) v₂.hall ∙ (lv Y (others c m) m₁).0) ∙ still₁

      pub axes_z : Fits (F Z (others c m₂)) r₂ m₂ s₂
      axes_z = fits_as (F Z (others c m)) (F Z (others c m₂)) r₂ m₂ m₂ s₂ (ap (λ (ds : List ℕ). F Z ds m₂) (sym still₂)) (fits_second (F Y (others c m)) (F Z (others c m)) r₁ m₁ m₂ s₁ s₂ r₂ x₁ v₂)

      pub axes_all : (m₃ : Hall) (s₃ : List ℕ) (r₃ : ℕ) → Wrote (F Z (others c m₂)) r₂ m₂ m₃ s₂ s₃ r₃ → Wrote (on_axes (λ a. F a (others c m))) n m m₃ s s₃ r₃
      axes_all m₃ s₃ r₃ w₃ =
          wrote_then (F X (others c m)) rest n m m₁ m₃ s s₁ s₃ r₁ r₃ (first_room (F X (others c m)) rest n m s x) w₁
          (wrote_then (F Y (others c m)) (F Z (others c m)) r₁ m₁ m₂ m₃ s₁ s₂ s₃ r₂ r₃ (first_room (F Y (others c m)) (F Z (others c m)) r₁ m₁ s₁ x₁) v₂
          (wrote_as (F Z (others c m)) (F Z (others c m₂)) r₂ m₂ m₂ m₃ s₂ s₃ r₃ (ap (λ (ds : List ℕ). F Z ds m₂) (sym still₂)) w₃))
