-- A layer over a lawful book is lawful.
use Rattle.std.specs.Prelude.{◌≡◌, ℕ, ◌*◌, ◌^◌, ◌≤◌, Bool, true, false, cond, ◌⊎◌, List, [], ◌∷◌, ◌++◌, Some, None, Option, ◌==◌, nat_le, refl}
use Rattle.std.proofs.Common.{sym, ap, ◌∙◌, subst, inl, inr, arith, eq-eqb}
use Rattle.std.proofs.Math.Nat.{pow-succ'}
use Rattle.std.proofs.lemmas.Bool.{cases_Bool, eqb-true, leb-true, both_ways}
use Rattle.rules.specs.Paths.{Path, Kept}
use Rattle.rules.specs.Books.{Book, BookChange, file, ride, Lawful, changed, changed_by, layered, path, carried}
use Rattle.books.specs.Sums.{kept_sum, kept_more}
use Rattle.books.specs.Owns.{frames_stay}
use Rattle.riding.specs.Layer.{sat}
use Rattle.riding.specs.Layers.{lay, layered_path, layered_scale, file_layered, ride_layered, seat_layered}

-- changes of a layered book come to other seats of the layer, and changes of the book below
record Below (s : ℕ → Option ℕ) (b : Book) (e : Book) : Type 0 where
  seats : ℕ → Option ℕ
  changes : List BookChange
  same : e ≡ layered seats (changed_by changes b)

one_below : (x : BookChange) (s : ℕ → Option ℕ) (b : Book) → Below s b (changed x (layered s b))
one_below (file c p) s b = record { seats = s; changes = file c p ∷ []; same = sym (file_layered s b c p) }
one_below (ride c j k) s b = by (cases_Bool (nat_le b.scale 4)) (cases_Bool (j == b.levels))
  where
    by : (nat_le b.scale 4 ≡ true) ⊎ (nat_le b.scale 4 ≡ false) → ((j == b.levels) ≡ true) ⊎ ((j == b.levels) ≡ false) → Below s b (changed (ride c j k) (layered s b))
    by (inl t) (inl e) = record {
      seats = sat c k s;
      changes = [];
      same = ap (λ (l : ℕ). changed (ride c l k) (layered s b)) (eqb-true j b.levels e) ∙ sym (seat_layered s b c k t);
    }
    by (inl t) (inr e) = record {
      seats = s;
      changes = ride c j k ∷ [];
      same = sym (ride_layered s b c j k (λ _ q. both_ways (j == b.levels) e (eq-eqb j b.levels q)));
    }
    by (inr t) e = record {
      seats = s;
      changes = ride c j k ∷ [];
      same = sym (ride_layered s b c j k (λ h _. both_ways (nat_le b.scale 4) t h));
    }

changed_both : (xs ys : List BookChange) (b : Book) → changed_by ys (changed_by xs b) ≡ changed_by (xs ++ ys) b
changed_both [] ys b = refl
changed_both (x ∷ xs) ys b = changed_both xs ys (changed x b)

all_below : (xs : List BookChange) (s : ℕ → Option ℕ) (b : Book) → Below s b (changed_by xs (layered s b))
all_below [] s b = record { seats = s; changes = []; same = refl }
all_below (x ∷ xs) s b =
    let o = one_below x s b in
    let r = all_below xs o.seats (changed_by o.changes b) in
    record {
      seats = r.seats;
      changes = o.changes ++ r.changes;
      same = ap (changed_by xs) o.same ∙ r.same ∙ ap (layered r.seats) (changed_both o.changes r.changes b);
    }

scale_by : (xs : List BookChange) (b : Book) → (changed_by xs b).scale ≡ b.scale
scale_by [] b = refl
scale_by (x ∷ xs) b = scale_by xs (changed x b) ∙ (frames_stay x b).scale

-- paths within a scale below are within the layer's scale above
kept_above : (t : Bool) (s : ℕ → Option ℕ) (p : ℕ → Path) (n c : ℕ) → n ≤ 9 → ((d : ℕ) → Kept n (p d)) → Kept (cond t (2 * n) 9) (carried p c (cond t (s c) None))
kept_above true s p n c h k = by (s c)
  where
    by : (o : Option ℕ) → Kept (2 * n) (carried p c o)
    by None = kept_more n (2 * n) (p c) (omega arith) (k c)
    by (Some d) = kept_sum (p c) (p d) n (k c) (k d)
kept_above false s p n c h k = kept_more n 9 (p c) h (k c)

layer_kept : (s r : ℕ → Option ℕ) (b e : Book) → e.scale ≡ b.scale → b.scale ≤ 9 → ((d : ℕ) → Kept b.scale (path e d)) → (c : ℕ) → Kept (layered s b).scale (path (layered r e) c)
layer_kept s r b e q h k c =
    subst (λ (n : ℕ). Kept n (path (layered r e) c)) (sym (layered_scale s b))
    (subst (Kept (cond (nat_le b.scale 4) (2 * b.scale) 9)) (sym (layered_path r e c ∙ ap (λ (n : ℕ). carried (path e) c (cond (nat_le n 4) (r c) None)) q))
    (kept_above (nat_le b.scale 4) r (path e) b.scale c h k))

layer_low : (t : Bool) (s : ℕ → Option ℕ) (b : Book) → 2 ^ b.levels ≤ b.scale → b.scale ≤ 9 → 2 ^ (lay t s b).levels ≤ (lay t s b).scale
layer_low true s b l h = let e = pow-succ' 2 b.levels in omega (arith, e, l)
layer_low false s b l h = omega (arith, l)

layer_high : (s : ℕ → Option ℕ) (b : Book) → b.scale ≤ 9 → (layered s b).scale ≤ 9
layer_high s b h = subst (λ (n : ℕ). n ≤ 9) (sym (layered_scale s b)) (by (cases_Bool (nat_le b.scale 4)))
  where
    by : (nat_le b.scale 4 ≡ true) ⊎ (nat_le b.scale 4 ≡ false) → cond (nat_le b.scale 4) (2 * b.scale) 9 ≤ 9
    by (inl e) = rw e (omega (arith, leb-true b.scale 4 e))
    by (inr e) = rw e (omega arith)

pub layered_lawful : (s : ℕ → Option ℕ) (b : Book) → Lawful b → Lawful (layered s b)
layered_lawful s b l = record {
  paths = λ xs c.
      let o = all_below xs s b in
      let e = changed_by o.changes b in
      subst (λ (f : Book). Kept (layered s b).scale (path f c)) (sym o.same)
      (layer_kept s o.seats b e (scale_by o.changes b) l.high (λ d. l.paths o.changes d) c);
  low = layer_low (nat_le b.scale 4) s b l.low l.high;
  high = layer_high s b l.high;
}
