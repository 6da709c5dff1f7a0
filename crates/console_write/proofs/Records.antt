-- The lines of a page's records, one after another.
use Rattle.std.proofs.Common.{◌≡◌, ℕ, zero, suc, ◌<◌, ◌≤◌, List, [], ◌∷◌, ◌++◌, length, drop, refl, sym, ap, ◌∙◌, arith, length-drop}
use Rattle.std.proofs.lemmas.List.{append-nil, append_assoc}
use Rattle.rules.specs.Pages.{Report}
use Rattle.pages.specs.Of.{Found, no_more, found, damage, next_in, left_after}
use Rattle.console_write.specs.Pages.{report_text, told_first, told_in, records_text}

told_suc : (k : ℕ) (bs : List ℕ) → told_in (suc k) bs ≡ told_first (next_in bs) (told_in k (left_after (next_in bs) bs))
unfolding told_in
told_suc k bs = refl

told_nil : (k : ℕ) → told_in k [] ≡ []
unfolding told_in
told_nil zero = refl
told_nil (suc k) = refl

same_first : (o : Found) (k j : ℕ) (bs : List ℕ) → told_in k (drop 11 bs) ≡ told_in j (drop 11 bs)
    → told_first o (told_in k (left_after o bs)) ≡ told_first o (told_in j (left_after o bs))
same_first no_more k j bs e = refl
same_first (found r) k j bs e = ap (λ (x : List ℕ). report_text r ++ x) e
same_first damage k j bs e = refl

-- a count that is long enough tells all
told_enough : (k j : ℕ) (bs : List ℕ) → length bs ≤ k → length bs ≤ j → told_in k bs ≡ told_in j bs
told_enough k j [] h i = told_nil k ∙ sym (told_nil j)
told_enough zero j (b ∷ bs) h i = absurd (omega arith)
told_enough (suc k) zero (b ∷ bs) h i = absurd (omega arith)
told_enough (suc k) (suc j) (b ∷ bs) h i =
    told_suc k (b ∷ bs)
    ∙ same_first (next_in (b ∷ bs)) k j (b ∷ bs) (told_enough k j (drop 11 (b ∷ bs)) (rw length-drop (omega arith)) (rw length-drop (omega arith)))
    ∙ sym (told_suc j (b ∷ bs))

-- what is found first is passed over
pub found_shorter : (bs : List ℕ) (r : Report) → next_in bs ≡ found r → length (drop 11 bs) < length bs
found_shorter [] r e = cc
found_shorter (b ∷ bs) r e = rw length-drop (omega arith)

pub records_more : (bs : List ℕ) (r : Report) → next_in bs ≡ found r → records_text bs ≡ report_text r ++ records_text (drop 11 bs)
records_more [] r e = cc
records_more (b ∷ bs) r e =
    told_suc (length bs) (b ∷ bs)
    ∙ ap (λ (o : Found). told_first o (told_in (length bs) (left_after o (b ∷ bs)))) e
    ∙ ap (λ (x : List ℕ). report_text r ++ x) (told_enough (length bs) (length (drop 11 (b ∷ bs))) (drop 11 (b ∷ bs)) (rw length-drop (omega arith)) (omega arith))

-- a line more is written
pub more_written : (w page bs cs : List ℕ) (r : Report) → w ++ records_text bs ≡ page → found r ≡ next_in bs → cs ≡ left_after (next_in bs) bs
    → (w ++ report_text r) ++ records_text cs ≡ page
more_written w page bs cs r inv t l =
    ap (λ (x : List ℕ). (w ++ report_text r) ++ records_text x) (l ∙ ap (λ (o : Found). left_after o bs) (sym t))
    ∙ append_assoc w (report_text r) (records_text (drop 11 bs))
    ∙ ap (λ (x : List ℕ). w ++ x) (sym (records_more bs r (sym t)))
    ∙ inv

records_none : (bs : List ℕ) (o : Found) → o ≡ next_in bs → ((x : List ℕ) → told_first o x ≡ []) → records_text bs ≡ []
records_none [] o e h = told_nil 0
records_none (b ∷ bs) o e h =
    told_suc (length bs) (b ∷ bs) ∙ ap (λ (p : Found). told_first p (told_in (length bs) (left_after p (b ∷ bs)))) (sym e) ∙ h (told_in (length bs) (left_after o (b ∷ bs)))

-- no line is left
pub all_written : (w page bs : List ℕ) (o : Found) → w ++ records_text bs ≡ page → o ≡ next_in bs → ((x : List ℕ) → told_first o x ≡ []) → w ≡ page
all_written w page bs o inv e h = sym (append-nil w) ∙ ap (λ (x : List ℕ). w ++ x) (sym (records_none bs o e h)) ∙ inv
