-- Lines written one after another.
use Rattle.std.proofs.Common.{◌≡◌, ℕ, ◌+◌, ◌<◌, ◌≤◌, List, [], ◌∷◌, ◌++◌, length, take, drop, set, sym, ap, ◌∙◌, subst, add-zero, add_assoc, zero-add, add-one, arith}
use Rattle.std.proofs.lemmas.List.{set_split, length-append, length-take, length-drop, take_at, append_assoc, take-append-drop}
use Rattle.std.proofs.lemmas.Slice.{drop-append-drop}
use Rattle.model.specs.Halls.{Hall}
use Rattle.model.specs.Moves.{Out, then, silent}
use Rattle.floor_laws.specs.Writing.{Move, written, Wrote, Fits, Grows}

pub out_≡ : (o p : Out) → o.hall ≡ p.hall → o.lines ≡ p.lines → o ≡ p
out_≡ o p e f i = record { hall = e i; lines = f i }

pub written_one : (n x : ℕ) (s : List ℕ) → n < length s → set s n x ≡ written n (x ∷ []) s
written_one n x s h = rw add-one (set_split s n x h)

module _ (n : ℕ) (a b s : List ℕ) (h : n + length a ≤ length s) where
  front : length (take n s ++ a) ≡ n + length a
  front = simp (length-append, length-take) (omega arith)

  whole : written n a s ≡ (take n s ++ a) ++ drop (n + length a) s
  whole = sym (append_assoc (take n s) a _)

  kept : take (n + length a) (written n a s) ≡ take n s ++ a
  kept = ap (take (n + length a)) whole ∙ take_at (take n s ++ a) _ _ front

  rest : drop (n + length a + length b) (written n a s) ≡ drop (n + length a + length b) s
  rest = ap (drop (n + length a + length b)) whole ∙ drop-append-drop (n + length a) s (take n s ++ a) _ (omega arith) front

  pub written_then : written (n + length a) b (written n a s) ≡ written n (a ++ b) s
  written_then = rw (kept, rest) (simp (append_assoc, length-append, add_assoc))

pub written_start : (a s : List ℕ) → written 0 a s ≡ a ++ drop (length a) s
written_start a s = simp zero-add

pub written_none : (n : ℕ) (s : List ℕ) → written n [] s ≡ s
written_none n s = simp add-zero (take-append-drop n s)

-- a slip keeps its length
pub written_length : (n : ℕ) (a s : List ℕ) → n + length a ≤ length s → length (written n a s) ≡ length s
written_length n a s h = simp (length-append, length-take, length-drop) (omega arith)

pub wrote_silent : (f : Move) (n : ℕ) (m : Hall) (s : List ℕ) → f m ≡ silent m → Wrote f n m m s s n
wrote_silent f n m s e = record {
  hall = sym (ap (λ (o : Out). o.hall) e);
  slip = sym (ap (λ (o : Out). written n o.lines s) e ∙ written_none n s);
  count = sym (ap (λ (o : Out). n + length o.lines) e ∙ add-zero n);
}

-- f does at m what g does at m₁
pub wrote_as : (f g : Move) (n : ℕ) (m m₁ m' : Hall) (s s' : List ℕ) (r : ℕ) → f m ≡ g m₁ → Wrote g n m₁ m' s s' r → Wrote f n m m' s s' r
wrote_as f g n m m₁ m' s s' r e w = record {
  hall = w.hall ∙ sym (ap (λ (o : Out). o.hall) e);
  slip = w.slip ∙ sym (ap (λ (o : Out). written n o.lines s) e);
  count = w.count ∙ sym (ap (λ (o : Out). n + length o.lines) e);
}

pub fits_as : (f g : Move) (n : ℕ) (m m₁ : Hall) (s : List ℕ) → f m ≡ g m₁ → Fits f n m s → Fits g n m₁ s
fits_as f g n m m₁ s e x = record {
  room = subst (λ (o : Out). n + length o.lines ≤ length s) e x.room;
  numbers = subst (λ (o : Out). o.hall.last ≤ 20000000) e x.numbers;
}

pub wrote_then : (f g : Move) (n : ℕ) (m m₁ m₂ : Hall) (s s₁ s₂ : List ℕ) (r₁ r₂ : ℕ) → n + length (f m).lines ≤ length s → Wrote f n m m₁ s s₁ r₁ → Wrote g r₁ m₁ m₂ s₁ s₂ r₂ → Wrote (then f g) n m m₂ s s₂ r₂
wrote_then f g n m m₁ m₂ s s₁ s₂ r₁ r₂ h p q =
    let e = p.hall in
    record {
      hall = q.hall ∙ ap (λ (x : Hall). (g x).hall) e;
      slip = q.slip ∙ ap (λ (x : Hall). written r₁ (g x).lines s₁) e ∙ ap (λ (k : ℕ). written k (g (f m).hall).lines s₁) p.count ∙ ap (written (n + length (f m).lines) (g (f m).hall).lines) p.slip ∙ written_then n (f m).lines (g (f m).hall).lines s h;
      count = q.count ∙ ap (λ (x : Hall). r₁ + length (g x).lines) e ∙ ap (λ (k : ℕ). k + length (g (f m).hall).lines) p.count ∙ add_assoc n _ _ ∙ ap (λ (k : ℕ). n + k) (sym (length-append (f m).lines _));
    }

-- what fits a move after another fits each of them in its turn
pub fits_first : (f g : Move) (n : ℕ) (m : Hall) (s : List ℕ) → Grows g → Fits (then f g) n m s → Fits f n m s
fits_first f g n m s up x = record {
  room = omega (arith, x.room, length-append (f m).lines (g (f m).hall).lines);
  numbers = omega (arith, x.numbers, up (f m).hall);
}

pub fits_second : (f g : Move) (n : ℕ) (m m₁ : Hall) (s s₁ : List ℕ) (r : ℕ) → Fits (then f g) n m s → Wrote f n m m₁ s s₁ r → Fits g r m₁ s₁
fits_second f g n m m₁ s s₁ r x w =
    let long : n + length (f m).lines ≤ length s = omega (arith, x.room, length-append (f m).lines (g (f m).hall).lines) in
    let l : length s₁ ≡ length s = ap length w.slip ∙ written_length n (f m).lines s long in
    record {
      room = subst (λ (h : Hall). r + length (g h).lines ≤ length s₁) (sym w.hall) (omega (arith, x.room, length-append (f m).lines (g (f m).hall).lines, w.count, l));
      numbers = subst (λ (h : Hall). (g h).hall.last ≤ 20000000) (sym w.hall) x.numbers;
    }

pub first_room : (f g : Move) (n : ℕ) (m : Hall) (s : List ℕ) → Fits (then f g) n m s → n + length (f m).lines ≤ length s
first_room f g n m s x = omega (arith, x.room, length-append (f m).lines (g (f m).hall).lines)

pub grows_then : (f g : Move) → Grows f → Grows g → Grows (then f g)
grows_then f g a b m = omega (arith, a m, b (f m).hall)
