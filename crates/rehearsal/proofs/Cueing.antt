-- The queue filled with first breaks, and run out.
use Rattle.std.proofs.Common.{◌≡◌, ℕ, zero, suc, ◌+◌, ◌-◌, ◌<◌, List, [], ◌∷◌, ◌++◌, Some, None, Option, sym, refl, ap, ◌∙◌, add-one, arith}
use Rattle.std.proofs.lemmas.List.{append-nil, append_assoc}
use Rattle.rules.specs.Fractions.{Fraction, tick}
use Rattle.rules.specs.Stamps.{Stamp}
use Rattle.rules.specs.Slots.{Queue}
use Rattle.rules.specs.Books.{Book}
use Rattle.queues.specs.Meanings.{changed, soonest}
use Rattle.rehearsal.specs.declared.cues.Cue.{Cue}
use Rattle.rehearsal.specs.Cues.{next_stamp, loaded, cue_told, cue_left, and_so_on, cues_in}

pub loaded_none : (b : Book) (q : Queue) → q ≡ loaded b 0 q
unfolding loaded
loaded_none b q = refl

loaded_suc : (b : Book) (c : ℕ) (q : Queue) → changed (loaded b c q) (12288 + c) (next_stamp b c (tick 0)) ≡ loaded b (suc c) q
unfolding loaded
loaded_suc b c q = refl

pub loaded_more : (b : Book) (c k : ℕ) (q r s : Queue) (o : Option Stamp) (t : Fraction)
    → r ≡ loaded b c q → t ≡ tick 0 → k ≡ 12288 + c → o ≡ next_stamp b c t → s ≡ changed r k o
    → s ≡ loaded b (c + 1) q
loaded_more b c k q r s o t er et ek eo es =
    es
    ∙ ap (λ (x : Queue). changed x k o) er
    ∙ ap (λ (x : ℕ). changed (loaded b c q) x o) ek
    ∙ ap (λ (x : Option Stamp). changed (loaded b c q) (12288 + c) x) (eo ∙ ap (λ (x : Fraction). next_stamp b c x) et)
    ∙ loaded_suc b c q
    ∙ ap (λ (x : ℕ). loaded b x q) (sym (add-one c))

cues_suc : (n : ℕ) (b : Book) (q : Queue) → cues_in (suc n) b q ≡ and_so_on (cue_told (soonest q)) (cues_in n b (cue_left b q (soonest q)))
unfolding cues_in
cues_suc n b q = refl

cues_zero : (b : Book) (q : Queue) → cues_in 0 b q ≡ []
unfolding cues_in
cues_zero b q = refl

cues_none : (n : ℕ) (b : Book) (q : Queue) → None ≡ cue_told (soonest q) → cues_in n b q ≡ []
cues_none zero b q e = cues_zero b q
cues_none (suc n) b q e =
    cues_suc n b q ∙ ap (λ (o : Option Cue). and_so_on o (cues_in n b (cue_left b q (soonest q)))) (sym e)

-- one cue more is taken
pub told_more : (top k : ℕ) (b : Book) (q r : Queue) (xs ys w : List Cue) (c : Cue)
    → k < top → xs ++ cues_in (top - k) b q ≡ w → Some c ≡ cue_told (soonest q) → r ≡ cue_left b q (soonest q) → ys ≡ xs ++ c ∷ []
    → ys ++ cues_in (top - (k + 1)) b r ≡ w
told_more top k b q r xs ys w c h inv et er ey =
    let m : ℕ = top - (k + 1) in
    let e : top - k ≡ suc m = omega arith in
    let told : cues_in (top - k) b q ≡ c ∷ cues_in m b r =
    ap (λ (x : ℕ). cues_in x b q) e
    ∙ cues_suc m b q
    ∙ ap (λ (o : Option Cue). and_so_on o (cues_in m b (cue_left b q (soonest q)))) (sym et)
    ∙ ap (λ (x : Queue). c ∷ cues_in m b x) (sym er)
    in
    ap (λ (x : List Cue). x ++ cues_in m b r) ey
    ∙ append_assoc xs (c ∷ []) (cues_in m b r)
    ∙ ap (λ (x : List Cue). xs ++ x) (sym told)
    ∙ inv

-- none is left
pub told_none : (n : ℕ) (b : Book) (q : Queue) (xs w : List Cue) → xs ++ cues_in n b q ≡ w → None ≡ cue_told (soonest q) → xs ≡ w
told_none n b q xs w inv e = sym (append-nil xs) ∙ ap (λ (x : List Cue). xs ++ x) (sym (cues_none n b q e)) ∙ inv

-- the count is used up
pub told_out : (n : ℕ) (b : Book) (q : Queue) (xs w : List Cue) → xs ++ cues_in n b q ≡ w → n ≡ 0 → xs ≡ w
told_out n b q xs w inv e =
    sym (append-nil xs)
    ∙ ap (λ (x : List Cue). xs ++ x) (sym (ap (λ (x : ℕ). cues_in x b q) e ∙ cues_zero b q))
    ∙ inv
