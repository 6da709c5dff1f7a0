-- How many words a plan has.
use Rattle.std.proofs.Common.{◌≡◌, ℕ, zero, suc, ◌+◌, ◌-◌, ◌*◌, ◌%◌, ◌<◌, ◌≤◌, Bool, true, false, not, cond, eqb, ltb, ◌&&◌, List, [], ◌∷◌, ◌++◌, length, drop, Some, None, Ok, Err, codes, Option, sym, refl, ap, ◌∙◌, ⊎_elim, arith}
use Rattle.std.proofs.lemmas.Bool.{cond-false, ne_eqb, le-ltb, cases_Bool}
use Rattle.std.proofs.lemmas.Bool.Decides.{nat_tests}
use Rattle.std.proofs.lemmas.List.{length-drop}
use Rattle.std.specs.Str.{bytes_eq}
use Rattle.console_text.specs.Texts.{before_comment, keep, words_from, words}
use Rattle.console_read.specs.Keywords.{keyword_of}
use Rattle.console_read.specs.Parsing.{command_of, told_of, ready, words_read, parsed_of}
use Rattle.console_read.specs.Shapes.{Words, at, and_then, byte_at, coordinate_at, xyz_of, leg_text, end_text, legs_text, plan_of, file_of, is_plan_long}
use Rattle.console_read.specs.declared.command.Command.{Command}
use Rattle.console_read.specs.declared.command.LegText.{LegText}
use Rattle.console_read.specs.declared.keyword.Keyword.{Keyword}
use Rattle.console_read.specs.declared.keyword.Keyword.TheVariants.{File}

-- how many words begin in bytes, given the byte before them
abbrev pub begin : ℕ → List ℕ → ℕ
begin l [] = 0
begin l (c ∷ cs) = cond (eqb l 32 && not (eqb c 32)) (1 + begin c cs) (begin c cs)

abbrev Read : Type 0
Read = Option (List LegText × ℕ)

either_none : {A : Type 0} (b : Bool) (x y : Option A) → x ≡ None → y ≡ None → cond b x y ≡ None
either_none true x y p q = p
either_none false x y p q = q

nothing_then : {A B : Type 0} (o : Option A) → and_then {A = A} {B = B} o (λ _. None) ≡ None
nothing_then None = refl
nothing_then (Some x) = refl

no_end : (ws : Words) → (length ws ≡ 2 → ⊥) → and_then {B = List LegText × ℕ} (end_text ws) (λ e. Some ([], e)) ≡ None
no_end ws h = ap (λ (o : Option ℕ). and_then {B = List LegText × ℕ} o (λ e. Some ([], e))) (cond-false (eqb (length ws) 2) _ None (ne_eqb (length ws) 2 h))

-- no legs of so many words
no_legs : (n : ℕ) (ws : Words) → (length ws % 5 ≡ 2 → 5 * n + 2 < length ws) → legs_text n ws ≡ None
unfolding legs_text
no_legs zero ws h = either_none (bytes_eq (at ws 0) (codes "end")) _ _ (no_end ws (λ e. omega (arith, e))) refl
no_legs (suc n) ws h =
    either_none (bytes_eq (at ws 0) (codes "end")) _ _ (no_end ws (λ e. omega (arith, e, h (ap (λ (m : ℕ). m % 5) e))))
    (ap (λ (o : Read). and_then (leg_text ws) (λ l. and_then o (λ p. Some (l ∷ p.0, p.1)))) (no_legs n (drop 5 ws) (λ e. omega (arith, length-drop 5 ws, e, h)))
    ∙ nothing_then (leg_text ws))

after_six : (n : ℕ) → is_plan_long n ≡ false → (n - 6) % 5 ≡ 2 → 102 < n - 6
after_six n h e = grind (arith, nat_tests)

no_legs_there : (ws : Words) → is_plan_long (length ws) ≡ false → legs_text 20 (drop 6 ws) ≡ None
no_legs_there ws h = no_legs 20 (drop 6 ws) (λ e. omega (arith, length-drop 6 ws, after_six (length ws) h (ap (λ (n : ℕ). n % 5) (sym (length-drop 6 ws)) ∙ e)))

-- a plan of so many words cannot be read
pub no_file : (ws : Words) → is_plan_long (length ws) ≡ false → file_of ws ≡ None
no_file ws h =
    let place = xyz_of (coordinate_at ws 3) (coordinate_at ws 4) (coordinate_at ws 5) in
    either_none (bytes_eq (at ws 2) (codes "at")) _ None
    (ap (λ (o : Read). and_then (byte_at ws 1) (λ c. and_then place (λ p. and_then o (λ q. Some (plan_of c p q))))) (no_legs_there ws h)
    ∙ ap (λ (o : Option Command). and_then (byte_at ws 1) (λ _. o)) (nothing_then place) ∙ nothing_then (byte_at ws 1)) refl

-- a run of no bytes
abbrev is_empty : List ℕ → Bool
is_empty [] = true
is_empty (c ∷ cs) = false

abbrev begun : List ℕ → ℕ
begun [] = 0
begun (c ∷ cs) = 1

kept : (run : List ℕ) (ws : Words) → length (keep run ws) ≡ begun run + length ws
kept [] ws = omega arith
kept (c ∷ cs) ws = omega arith

more : (run : List ℕ) (c : ℕ) → is_empty (run ++ (c ∷ [])) ≡ false
more [] c = refl
more (b ∷ run) c = refl

more_begun : (run : List ℕ) (c : ℕ) → begun (run ++ (c ∷ [])) ≡ 1
more_begun [] c = refl
more_begun (b ∷ run) c = refl

at_space : (a b : Bool) (n : ℕ) → b ≡ true → cond (a && not b) (1 + n) n ≡ n
at_space true true n h = refl
at_space false true n h = refl
at_space a false n h = absurd (cc)

at_other : (run : List ℕ) (a b : Bool) (n : ℕ) → a ≡ is_empty run → b ≡ false → begun run + cond (a && not b) (1 + n) n ≡ 1 + n
at_other run a true n s h = absurd (cc)
at_other [] true false n s h = omega arith
at_other [] false false n s h = absurd (cc)
at_other (c ∷ cs) true false n s h = absurd (cc)
at_other (c ∷ cs) false false n s h = refl

space : (run : List ℕ) (l c : ℕ) (cs : List ℕ) → eqb c 32 ≡ true → length (words_from [] cs) ≡ 0 + begin c cs → length (words_from run (c ∷ cs)) ≡ begun run + begin l (c ∷ cs)
space run l c cs e h =
    let n : length (words_from run (c ∷ cs)) ≡ begun run + length (words_from [] cs)
    = ap (λ (b : Bool). length (cond b (keep run (words_from [] cs)) (words_from (run ++ (c ∷ [])) cs))) e ∙ kept run (words_from [] cs) in
    omega (arith, n, h, at_space (eqb l 32) (eqb c 32) (begin c cs) e)

other : (run : List ℕ) (l c : ℕ) (cs : List ℕ) → eqb l 32 ≡ is_empty run → eqb c 32 ≡ false → length (words_from (run ++ (c ∷ [])) cs) ≡ begun (run ++ (c ∷ [])) + begin c cs
    → length (words_from run (c ∷ cs)) ≡ begun run + begin l (c ∷ cs)
other run l c cs s e h =
    let n : length (words_from run (c ∷ cs)) ≡ length (words_from (run ++ (c ∷ [])) cs)
    = ap (λ (b : Bool). length (cond b (keep run (words_from [] cs)) (words_from (run ++ (c ∷ [])) cs))) e in
    omega (arith, n, h, more_begun run c, at_other run (eqb l 32) (eqb c 32) (begin c cs) s e)

counted : (run : List ℕ) (l : ℕ) (bs : List ℕ) → eqb l 32 ≡ is_empty run → length (words_from run bs) ≡ begun run + begin l bs
counted run l [] s = kept run []
counted run l (c ∷ cs) s = ⊎_elim (λ e. space run l c cs e (counted [] c cs e)) (λ e. other run l c cs s e (counted (run ++ (c ∷ [])) c cs (e ∙ sym (more run c)))) (cases_Bool (eqb c 32))

-- the words are those that begin
pub words_begin : (bs : List ℕ) → begin 32 bs ≡ length (words bs)
words_begin bs = omega (arith, counted [] 32 bs refl)

no_plan : (ws : Words) (w : List ℕ) (t : Words) → ws ≡ w ∷ t → keyword_of w ≡ Some File → is_plan_long (length ws) ≡ false → words_read ws ≡ Err (record {})
no_plan ws w t e k h =
    let n : is_plan_long (length (w ∷ t)) ≡ false = ap (λ (v : Words). is_plan_long (length v)) (sym e) ∙ h in
    let none : told_of (w ∷ t) ≡ None = ap (λ (o : Option Keyword). and_then o (λ k. command_of k (w ∷ t))) k ∙ no_file (w ∷ t) n in
    ap words_read e ∙ cond-false (eqb (length (w ∷ t)) 0) (Ok None) (ready (told_of (w ∷ t))) (ne_eqb (length (w ∷ t)) 0 (λ z. omega (arith, z))) ∙ ap ready none

-- a line that begins as a plan, and has other than a plan's many words
pub unread : (line text : List ℕ) (w : List ℕ) (t : Words) → length line ≤ 1000 → text ≡ before_comment line → words text ≡ w ∷ t → keyword_of w ≡ Some File
    → is_plan_long (length (words text)) ≡ false → Err (record {}) ≡ parsed_of line
unread line text w t short e f k h =
    sym (cond-false (ltb 1000 (length line)) (Err (record {})) (words_read (words (before_comment line))) (le-ltb 1000 (length line) short)
    ∙ ap (λ (b : List ℕ). words_read (words b)) (sym e) ∙ no_plan (words text) w t f k h)
