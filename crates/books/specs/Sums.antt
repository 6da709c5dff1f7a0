-- Paths added.
use Rattle.std.specs.Prelude.{◌≡◌, ℕ, suc, ◌+◌, ◌*◌, ◌^◌, ◌≤◌, Bool, true, false, cond, List, [], ◌∷◌, ◌++◌, ℤ, ◌+ℤ◌, Some, None, Option, unsigned_abs, refl}
use Rattle.std.proofs.Common.{sym, ap, ap₂, ◌∙◌, subst, ⊎_elim, arith, mul-le-mul_right, mul-le-mul}
use mathlib.Core.List.Memᴰ
use Rattle.std.proofs.Math.Nat.{pow-succ'}
use Rattle.std.proofs.lemmas.Int.{ints}
use Rattle.rules.specs.Basics.{◌∈◌}
use Rattle.rules.specs.Fractions.{Fraction, tick, is_before}
use Rattle.rules.specs.Paths.{Axis, Path, Kept, sum, speed_at, line_at, first_after, min_with}
use Rattle.plans.specs.Lines.{plus}
use Rattle.plans.proofs.Flown.{of_places, line_plus}
use Rattle.books.specs.Breaks.{earlier}
use Rattle.books.specs.Right.{Right}

-- the size of a sum, where each part leaves room for one level more
double : (x y z p b : ℕ) → z ≤ x + y → x * (2 * p) ≤ b → y * (2 * p) ≤ b → z * p ≤ b
double x y z p b h k l = omega (arith, mul-le-mul_right p h, k, l)

half : (x p b : ℕ) → x * (2 * p) ≤ b → x * p ≤ b
half x p b h = omega (arith, h)

sum_size : (a b : ℤ) → unsigned_abs (a +ℤ b) ≤ unsigned_abs a + unsigned_abs b
sum_size a b = omega (arith, ints)

summed : (l m : ℕ) (a b : ℤ) → unsigned_abs a * 2 ^ suc l ≤ m → unsigned_abs b * 2 ^ suc l ≤ m → unsigned_abs (a +ℤ b) * 2 ^ l ≤ m
summed l m a b h k =
    let e = pow-succ' 2 l in
    double (unsigned_abs a) (unsigned_abs b) (unsigned_abs (a +ℤ b)) (2 ^ l) m (sum_size a b)
    (subst (λ (n : ℕ). unsigned_abs a * n ≤ m) e h) (subst (λ (n : ℕ). unsigned_abs b * n ≤ m) e k)

fewer : (l m x : ℕ) → x * 2 ^ suc l ≤ m → x * 2 ^ l ≤ m
fewer l m x h = half x (2 ^ l) m (subst (λ (n : ℕ). x * n ≤ m) (pow-succ' 2 l) h)

-- the line of a sum is the sum of the lines
pub sum_pair : (p q : Path) (a : Axis) (i : ℕ) → of_places ((sum p q).place a) i ≡ plus (of_places (p.place a) i) (of_places (q.place a) i)
sum_pair p q a i = line_plus (p.place a) (q.place a) i

pub sum_slope : (p q : Path) (a : Axis) (i : ℕ) → speed_at (sum p q) a i ≡ speed_at p a i +ℤ speed_at q a i
sum_slope p q a i = ap (λ (l : ℤ × ℤ). l.1) (sum_pair p q a i)

pub sum_base : (p q : Path) (a : Axis) (i : ℕ) → (line_at (sum p q) a i).base ≡ (line_at p a i).base +ℤ (line_at q a i).base
sum_base p q a i = ap (λ (l : ℤ × ℤ). l.0) (sum_pair p q a i)

module _ (p q : Path) where
  sum_turns : ((a : Axis) (i : ℕ) → ¬ (suc i ∈ p.breaks) → speed_at p a (suc i) ≡ speed_at p a i) →
      ((a : Axis) (i : ℕ) → ¬ (suc i ∈ q.breaks) → speed_at q a (suc i) ≡ speed_at q a i) →
      (a : Axis) (i : ℕ) → ¬ (suc i ∈ (p.breaks ++ q.breaks)) → speed_at (sum p q) a (suc i) ≡ speed_at (sum p q) a i
  sum_turns f g a i n =
      sum_slope p q a (suc i)
      ∙ ap₂ ◌+ℤ◌ (f a i (λ m. n (Memᴰ.append_left q.breaks m))) (g a i (λ m. n (Memᴰ.append_right p.breaks m)))
      ∙ sym (sum_slope p q a i)

  sum_ends : ((k : ℕ) → k ∈ p.breaks → k ≤ 50000) → ((k : ℕ) → k ∈ q.breaks → k ≤ 50000) → (k : ℕ) → k ∈ (p.breaks ++ q.breaks) → k ≤ 50000
  sum_ends f g k m = ⊎_elim (f k) (g k) (Memᴰ.append_cases p.breaks m)

  pub right_sum : (l s : ℕ) → Right (suc l) s p → Right (suc l) s q → Right l s (sum p q)
  right_sum l s f g = record {
    turns = sum_turns f.turns g.turns;
    stays = λ a i h. ap₂ ◌+ℤ◌ (f.stays a i h) (g.stays a i h);
    ends = sum_ends f.ends g.ends;
    places = λ a i. summed l (51000000 * s) (p.place a i) (q.place a i) (f.places a i) (g.places a i);
    slopes = λ a i. subst (λ (v : ℤ). unsigned_abs v * 2 ^ l ≤ 1000 * s) (sym (sum_slope p q a i)) (summed l (1000 * s) (speed_at p a i) (speed_at q a i) (f.slopes a i) (g.slopes a i));
    bases = λ a i. subst (λ (v : ℤ). unsigned_abs v * 2 ^ l ≤ 101000000 * s) (sym (sum_base p q a i)) (summed l (101000000 * s) (line_at p a i).base (line_at q a i).base (f.bases a i) (g.bases a i));
  }

  within_sum : (m n : ℕ) (a b : ℤ) → unsigned_abs a ≤ m * n → unsigned_abs b ≤ m * n → unsigned_abs (a +ℤ b) ≤ m * (2 * n)
  within_sum m n a b h k = omega (arith, sum_size a b, h, k)

  -- the scale doubles
  pub kept_sum : (s : ℕ) → Kept s p → Kept s q → Kept (2 * s) (sum p q)
  kept_sum s f g = record {
    turns = sum_turns f.turns g.turns;
    stays = λ a i h. ap₂ ◌+ℤ◌ (f.stays a i h) (g.stays a i h);
    ends = sum_ends f.ends g.ends;
    places = λ a i. within_sum 51000000 s (p.place a i) (q.place a i) (f.places a i) (g.places a i);
    slopes = λ a i. subst (λ (v : ℤ). unsigned_abs v ≤ 1000 * (2 * s)) (sym (sum_slope p q a i)) (within_sum 1000 s (speed_at p a i) (speed_at q a i) (f.slopes a i) (g.slopes a i));
    bases = λ a i. subst (λ (v : ℤ). unsigned_abs v ≤ 101000000 * (2 * s)) (sym (sum_base p q a i)) (within_sum 101000000 s (line_at p a i).base (line_at q a i).base (f.bases a i) (g.bases a i));
  }

pub kept_more : (s r : ℕ) (p : Path) → s ≤ r → Kept s p → Kept r p
kept_more s r p h f = record {
  turns = f.turns;
  stays = f.stays;
  ends = f.ends;
  places = λ a i. more 51000000 (f.places a i);
  slopes = λ a i. more 1000 (f.slopes a i);
  bases = λ a i. more 101000000 (f.bases a i);
}
  where
    more : {x : ℕ} (m : ℕ) → x ≤ m * s → x ≤ m * r
    more m k = let g : m ≤ m = omega arith in omega (arith, k, mul-le-mul g h)

pub right_fewer : (l s : ℕ) (p : Path) → Right (suc l) s p → Right l s p
right_fewer l s p f = record {
  turns = f.turns;
  stays = f.stays;
  ends = f.ends;
  places = λ a i. fewer l _ _ (f.places a i);
  slopes = λ a i. fewer l _ _ (f.slopes a i);
  bases = λ a i. fewer l _ _ (f.bases a i);
}

pub right_kept : (s : ℕ) (p : Path) → Right 0 s p → Kept s p
right_kept s p f = record {
  turns = f.turns;
  stays = f.stays;
  ends = f.ends;
  places = λ a i. let h = f.places a i in omega arith;
  slopes = λ a i. let h = f.slopes a i in omega arith;
  bases = λ a i. let h = f.bases a i in omega arith;
}

pub kept_right : (l s : ℕ) (p : Path) → 2 ^ l ≤ s → Kept 1 p → Right l s p
kept_right l s p h f = record {
  turns = f.turns;
  stays = f.stays;
  ends = f.ends;
  places = λ a i. room 51000000 _ (f.places a i);
  slopes = λ a i. room 1000 _ (f.slopes a i);
  bases = λ a i. room 101000000 _ (f.bases a i);
}
  where
    room : (m x : ℕ) → x ≤ m * 1 → x * 2 ^ l ≤ m * s
    room m x k = let k' : x ≤ m = omega arith in mul-le-mul k' h

-- BREAKS

min_earlier : (k : ℕ) (o p : Option ℕ) → min_with k (earlier o p) ≡ min_with (min_with k o) p
min_earlier k None p = refl
min_earlier k (Some j) None = refl
min_earlier k (Some j) (Some i) = omega arith

pub first_both : (t : Fraction) (xs ys : List ℕ) → first_after t (xs ++ ys) ≡ earlier (first_after t xs) (first_after t ys)
first_both t [] ys = refl
first_both t (k ∷ xs) ys =
    ap (λ (o : Option ℕ). cond (is_before t (tick k)) (Some (min_with k o)) o) (first_both t xs ys) ∙ by (is_before t (tick k)) (first_after t xs) (first_after t ys)
  where
    by : (b : Bool) (o p : Option ℕ) → cond b (Some (min_with k (earlier o p))) (earlier o p) ≡ earlier (cond b (Some (min_with k o)) o) p
    by true o p = ap Some (min_earlier k o p)
    by false o p = refl
