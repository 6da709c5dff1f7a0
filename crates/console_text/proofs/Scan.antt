-- Words from the left: spaces are passed, and a run up to a space is a word.
use Rattle.std.proofs.Common.{◌≡◌, ℕ, zero, suc, ◌+◌, ◌-◌, ◌<◌, ◌≤◌, Bool, true, false, not, cond, eqb, List, [], ◌∷◌, ◌++◌, length, take, drop, get_or, slice_get, Option, Bor, position, Some, None, sym, refl, ap, ◌∙◌, ⊎_elim, append-nil, one-add, arith, length-append}
use Rattle.std.proofs.lemmas.Grind.{common_steps}
use Rattle.std.proofs.lemmas.Bool.{cases_Bool}
use Rattle.std.proofs.lemmas.List.{take_rest, drop_all}
use Rattle.std.proofs.lemmas.List.Sums.{prefix_len-le-length}
use Rattle.std.specs.List.{position_or_len}
use Rattle.std.specs.Option.{unwrap_or, option_map}
use Rattle.console_text.specs.Texts.{place, keep, words_from, words}

-- where a byte other than a space first stands, or the length
abbrev pub start : List ℕ → ℕ
start bs = position_or_len (λ c. not (eqb c 32)) bs

skip_more : (c : ℕ) (cs : List ℕ) → eqb c 32 ≡ true → words (drop (start cs) cs) ≡ words cs → words (drop (start (c ∷ cs)) (c ∷ cs)) ≡ words (c ∷ cs)
skip_more c cs e h = rw (e, one-add) h

skip_none : (c : ℕ) (cs : List ℕ) → eqb c 32 ≡ false → words (drop (start (c ∷ cs)) (c ∷ cs)) ≡ words (c ∷ cs)
skip_none c cs e = ap (λ b. words (drop (cond (not (not b)) (1 + start cs) 0) (c ∷ cs))) e

-- spaces are passed
pub words_skip : (bs : List ℕ) → words (drop (start bs) bs) ≡ words bs
words_skip [] = refl
words_skip (c ∷ cs) = ⊎_elim (λ e. skip_more c cs e (words_skip cs)) (λ e. skip_none c cs e) (cases_Bool (eqb c 32))

run_ends : (run : List ℕ) (c : ℕ) (cs : List ℕ) → eqb c 32 ≡ true → words_from run (c ∷ cs) ≡ keep (run ++ take (place 32 (c ∷ cs)) (c ∷ cs)) (words (drop (place 32 (c ∷ cs)) (c ∷ cs)))
run_ends run c cs e = grind (arith, common_steps)

run_more : (run : List ℕ) (c : ℕ) (cs : List ℕ) → eqb c 32 ≡ false
    → words_from (run ++ (c ∷ [])) cs ≡ keep ((run ++ (c ∷ [])) ++ take (place 32 cs) cs) (words (drop (place 32 cs) cs))
    → words_from run (c ∷ cs) ≡ keep (run ++ take (place 32 (c ∷ cs)) (c ∷ cs)) (words (drop (place 32 (c ∷ cs)) (c ∷ cs)))
run_more run c cs e h = grind (arith, common_steps)

-- a run goes on to the next space
pub words_run : (run bs : List ℕ) → words_from run bs ≡ keep (run ++ take (place 32 bs) bs) (words (drop (place 32 bs) bs))
words_run run [] = ap (λ r. keep r []) (sym (append-nil run))
words_run run (c ∷ cs) = ⊎_elim (λ e. run_ends run c cs e) (λ e. run_more run c cs e (words_run (run ++ (c ∷ [])) cs)) (cases_Bool (eqb c 32))

some_more : (c : ℕ) (cs : List ℕ) → eqb c 32 ≡ true → (start cs < length cs → 0 < place 32 (drop (start cs) cs)) → start (c ∷ cs) < length (c ∷ cs) → 0 < place 32 (drop (start (c ∷ cs)) (c ∷ cs))
some_more c cs e h = rw (e, one-add) (λ p. h (omega arith))

some_here : (c : ℕ) (cs : List ℕ) → eqb c 32 ≡ false → 0 < place 32 (drop (start (c ∷ cs)) (c ∷ cs))
some_here c cs e = rw (e, e) (omega arith)

-- where a word begins there is no space
run_some : (bs : List ℕ) → start bs < length bs → 0 < place 32 (drop (start bs) bs)
run_some [] p = absurd (omega arith)
run_some (c ∷ cs) p = ⊎_elim (λ e. some_more c cs e (run_some cs) p) (λ e. some_here c cs e) (cases_Bool (eqb c 32))

keep_some : (run : List ℕ) (ws : List (List ℕ)) → 0 < length run → keep run ws ≡ run ∷ ws
keep_some [] ws p = absurd (omega arith)
keep_some (c ∷ cs) ws p = refl

-- the first place at which a test passes
found : (p : ℕ → Bool) (bs : List ℕ) (s : ℕ) → Some s ≡ position p bs → (s ≡ position_or_len p bs) × (s < length bs)
found p bs s e = grind (arith, common_steps)

found_or : (p : ℕ → Bool) (bs : List ℕ) → unwrap_or (position p bs) (length bs) ≡ position_or_len p bs
found_or p bs = grind (arith, common_steps, prefix_len-le-length (λ x. not (p x)) bs)

first_run : (bs : List ℕ) → start bs < length bs → (let r = drop (start bs) bs in words bs ≡ take (place 32 r) r ∷ words (drop (place 32 r) r))
first_run bs p =
    let r = drop (start bs) bs in
    let q = run_some bs p in
    sym (words_skip bs) ∙ words_run [] r ∙ keep_some (take (place 32 r) r) (words (drop (place 32 r) r)) (grind (arith, common_steps, q, p))

-- the first word
pub next_word : (bs : List ℕ) (s e : ℕ) → Some s ≡ position (λ c. not (eqb c 32)) bs
    → (let r = take (length bs - s) (drop s bs) in e ≡ unwrap_or (position (λ c. eqb c 32) r) (length r) → words bs ≡ take e r ∷ words (drop e r))
next_word bs s e p h =
    let f = found (λ c. not (eqb c 32)) bs s p in
    let r : take (length bs - s) (drop s bs) ≡ drop (start bs) bs = take_rest bs s ∙ ap (λ n. drop n bs) f.0 in
    let k : e ≡ place 32 (take (length bs - s) (drop s bs)) = h ∙ found_or (λ c. eqb c 32) (take (length bs - s) (drop s bs)) in
    let g = first_run bs (omega (arith, f.0, f.1)) in
    rw (k, r) g

lost : (p : ℕ → Bool) (bs : List ℕ) → None ≡ position p bs → length bs ≤ position_or_len p bs
lost p bs e = grind (arith, common_steps)

-- no word
pub no_word : (bs : List ℕ) → None ≡ position (λ c. not (eqb c 32)) bs → words bs ≡ []
no_word bs p = sym (words_skip bs) ∙ ap words (drop_all (start bs) bs (lost (λ c. not (eqb c 32)) bs p))

keep_few : (run : List ℕ) (ws : List (List ℕ)) → length (keep run ws) ≤ length run + length ws
keep_few [] ws = omega arith
keep_few (c ∷ cs) ws = omega arith

run_few : (run : List ℕ) (c : ℕ) (cs : List ℕ) → length (words cs) ≤ 0 + length cs → length (words_from (run ++ (c ∷ [])) cs) ≤ length run + 1 + length cs → length (words_from run (c ∷ cs)) ≤ length run + length (c ∷ cs)
run_few run c cs p q = let k = keep_few run (words cs) in ⊎_elim (λ e. rw e (omega (arith, k))) (λ e. rw e (omega arith)) (cases_Bool (eqb c 32))

from_few : (run bs : List ℕ) → length (words_from run bs) ≤ length run + length bs
from_few run [] = keep_few run []
from_few run (c ∷ cs) = run_few run c cs (from_few [] cs) (simp (length-append) at (from_few (run ++ (c ∷ [])) cs))

-- no more words than bytes
pub words_fit : (bs : List ℕ) → length (words bs) ≤ length bs
words_fit bs = omega (arith, from_few [] bs)

word_here : (ws : List (List ℕ)) (k : ℕ) (r : Option (Bor (List ℕ))) (none : Bor (List ℕ)) → option_map (λ x. x.now) r ≡ slice_get ws k → none.now ≡ [] → (unwrap_or r none).now ≡ get_or ws k []
word_here [] k None none e h = h
word_here [] k (Some x) none e h = cc
word_here (w ∷ ws) zero None none e h = cc
word_here (w ∷ ws) zero (Some x) none e h = cc
word_here (w ∷ ws) (suc k) r none e h = word_here ws k r none e h

-- word number k, or no bytes
pub word_at : (ws : List (List ℕ)) (j k : ℕ) (r : Option (Bor (List ℕ))) (none : Bor (List ℕ)) → option_map (λ x. x.now) r ≡ slice_get ws j → none.now ≡ [] → j ≡ k → (unwrap_or r none).now ≡ get_or ws k []
word_at ws j k r none e h i = word_here ws j r none e h ∙ ap (λ n. get_or ws n []) i
