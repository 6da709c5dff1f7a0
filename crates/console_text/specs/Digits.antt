-- What the library reads as a number is what the definitions say.
use Rattle.std.proofs.Common.{◌≡◌, ℕ, suc, ◌+◌, ◌-◌, ◌*◌, ◌^◌, ◌<◌, ◌≤◌, Bool, true, false, cond, eqb, ltb, lit<, ◌⊎◌, inl, inr, List, [], ◌∷◌, length, get_or, drop, Some, None, Ok, Err, Option, Result, ℤ, pos, neg_ℤ, sym, refl, ap, ◌∙◌, ⊎_elim, ◌&&◌, arith, rules}
use Rattle.std.proofs.lemmas.Grind.{common_steps}
use Rattle.std.proofs.Math.Nat.{pow-succ', pow-le-pow_right, mul-le-mul_right}
use Rattle.std.proofs.lemmas.Bool.{and_parts, cases_Bool, cases_eq, ltb-true, cond-true, cond-false, eq-eqb, ne_eqb}
use Rattle.std.proofs.lemmas.Str.{IsUtf8-from_ascii}
use Rattle.std.proofs.lemmas.Str.Ascii.{IsAscii-cons, IsAscii-nil}
use Rattle.std.proofs.lemmas.Str.Parse.{IsNumeralModel, numerals_by_fold, parse_plain, parse_plus, parse_signed_minus, parse_signed_plain, parse_signed_plus}
use Rattle.std.specs.Result.{OkIff, result_ok}
use Rattle.std.specs.Str.{IsUtf8, IsAscii}
use Rattle.std.specs.Str.Parse.{ParsesUnsigned, ParsesSigned}
use Rattle.console_text.specs.Numbers.{is_digit, after_zeros, is_too_long, digits_from, digits_in, limited, unsigned_in, signed_in, plus, minus}
use mir.Syntax.{Width}
use mir.Val.{hbits}

-- digits, and the number that they give after n
abbrev all : List ℕ → Bool
all [] = true
all (c ∷ cs) = is_digit c && all cs

abbrev value : ℕ → List ℕ → ℕ
value n [] = n
value n (c ∷ cs) = value (n * 10 + (c - 48)) cs

own : IsNumeralModel (λ ds. all ds ≡ true) (value 0)
own = numerals_by_fold _ (search rules) value (search rules)

below : (c : ℕ) → is_digit c ≡ true → c < 128
below c h = grind (arith, common_steps)

digit_more : (n c : ℕ) (cs : List ℕ) → digits_from (n * 10 + (c - 48)) cs ≡ cond (all cs) (Some (value (n * 10 + (c - 48)) cs)) None
    → digits_from n (c ∷ cs) ≡ cond (all (c ∷ cs)) (Some (value n (c ∷ cs))) None
digit_more n c cs h = grind (arith, common_steps)

digits_is : (n : ℕ) (ds : List ℕ) → digits_from n ds ≡ cond (all ds) (Some (value n ds)) None
digits_is n [] = refl
digits_is n (c ∷ cs) = digit_more n c cs (digits_is (n * 10 + (c - 48)) cs)

kept : (most : ℕ) (ds : List ℕ) → all ds ≡ true → 0 < length ds → value 0 ds ≤ most → limited most (digits_in ds) ≡ Some (value 0 ds)
kept most ds p q r = let e = digits_is 0 ds in grind (arith, common_steps)

lost : (most : ℕ) (ds : List ℕ) → ¬ ((all ds ≡ true) × (0 < length ds) × (value 0 ds ≤ most)) → limited most (digits_in ds) ≡ None
lost most ds p = let e = digits_is 0 ds in grind (arith, common_steps)

-- r is f of the number that the digits give, where that is at most `most`
answered : {A E Q : Type 0} (f : Option ℕ → Option A) (v : A) (most : ℕ) (ds : List ℕ) (r : Result A E)
    → f None ≡ None → f (Some (value 0 ds)) ≡ Some v → (Q → (all ds ≡ true) × (0 < length ds) × (value 0 ds ≤ most)) → ((all ds ≡ true) × (0 < length ds) × (value 0 ds ≤ most) → Q)
    → OkIff r Q v → result_ok r ≡ f (limited most (digits_in ds))
answered f v most ds (Ok x) p q to from h = let t = to h.0 in ap Some h.1 ∙ sym q ∙ ap f (sym (kept most ds t.0 t.1 t.2))
answered f v most ds (Err e) p q to from h = sym p ∙ ap f (sym (lost most ds (λ t. h (from t))))

-- UNSIGNED

unsigned_at : {E : Type 0} (most bound : ℕ) (ds : List ℕ) (r : Result ℕ E) → bound ≡ most + 1 → OkIff r ((all ds ≡ true) × (0 < length ds) × (value 0 ds < bound)) (value 0 ds)
    → result_ok r ≡ limited most (digits_in ds)
unsigned_at most bound ds r b h = answered (λ o. o) (value 0 ds) most ds r refl refl (λ t. (t.0, t.1, omega (arith, b, t.2))) (λ t. (t.0, t.1, omega (arith, b, t.2))) h

pub unsigned_read : {E : Type 0} (k most : ℕ) → 2 ^ k ≡ most + 1 → (w : List ℕ) (r : Result ℕ E) → ParsesUnsigned k 10 w r → result_ok r ≡ unsigned_in most w
unsigned_read k most b w r h =
    ⊎_elim
    (λ e. unsigned_at most (2 ^ k) (drop 1 w) r b (parse_plus own k w r h e) ∙ ap (λ ds. limited most (digits_in ds)) (sym (cond-true (eqb (get_or w 0 0) 43) (drop 1 w) w (eq-eqb (get_or w 0 0) 43 e))))
    (λ e. unsigned_at most (2 ^ k) w r b (parse_plain own k w r h e) ∙ ap (λ ds. limited most (digits_in ds)) (sym (cond-false (eqb (get_or w 0 0) 43) (drop 1 w) w (ne_eqb (get_or w 0 0) 43 e))))
    (cases_eq (get_or w 0 0) 43)

-- SIGNED

minus_at : {E : Type 0} (low bound : ℕ) (ds : List ℕ) (r : Result ℤ E) → bound ≡ low → OkIff r ((all ds ≡ true) × (0 < length ds) × (value 0 ds ≤ bound)) (neg_ℤ (pos (value 0 ds)))
    → result_ok r ≡ minus (limited low (digits_in ds))
minus_at low bound ds r b h = answered minus (neg_ℤ (pos (value 0 ds))) low ds r refl refl (λ t. (t.0, t.1, omega (arith, b, t.2))) (λ t. (t.0, t.1, omega (arith, b, t.2))) h

plus_at : {E : Type 0} (high bound : ℕ) (ds : List ℕ) (r : Result ℤ E) → bound ≡ high + 1 → OkIff r ((all ds ≡ true) × (0 < length ds) × (value 0 ds < bound)) (pos (value 0 ds))
    → result_ok r ≡ plus (limited high (digits_in ds))
plus_at high bound ds r b h = answered plus (pos (value 0 ds)) high ds r refl refl (λ t. (t.0, t.1, omega (arith, b, t.2))) (λ t. (t.0, t.1, omega (arith, b, t.2))) h

pub signed_read : {E : Type 0} (k : Width) (low high : ℕ) → 2 ^ hbits k ≡ low → low ≡ high + 1 → (w : List ℕ) (r : Result ℤ E) → ParsesSigned k 10 w r → result_ok r ≡ signed_in low high w
signed_read k low high b d w r h =
    ⊎_elim
    (λ e. minus_at low (2 ^ hbits k) (drop 1 w) r b (parse_signed_minus own k w r h e) ∙ sym (cond-true (eqb (get_or w 0 0) 45) _ _ (eq-eqb (get_or w 0 0) 45 e)))
    (λ n. ⊎_elim
    (λ e. plus_at high (2 ^ hbits k) (drop 1 w) r (b ∙ d) (parse_signed_plus own k w r h e) ∙ ap (λ ds. plus (limited high (digits_in ds))) (sym (cond-true (eqb (get_or w 0 0) 43) (drop 1 w) w (eq-eqb (get_or w 0 0) 43 e))) ∙ sym (cond-false (eqb (get_or w 0 0) 45) _ _ (ne_eqb (get_or w 0 0) 45 n)))
    (λ e. plus_at high (2 ^ hbits k) w r (b ∙ d) (parse_signed_plain own k w r h e n) ∙ ap (λ ds. plus (limited high (digits_in ds))) (sym (cond-false (eqb (get_or w 0 0) 43) (drop 1 w) w (ne_eqb (get_or w 0 0) 43 e))) ∙ sym (cond-false (eqb (get_or w 0 0) 45) _ _ (ne_eqb (get_or w 0 0) 45 n)))
    (cases_eq (get_or w 0 0) 43))
    (cases_eq (get_or w 0 0) 45)

-- A WORD THAT IS NO TEXT

all_ascii : (ds : List ℕ) → all ds ≡ true → IsAscii ds
all_ascii [] h = IsAscii-nil
all_ascii (c ∷ cs) h = let t = and_parts (is_digit c) (all cs) h in IsAscii-cons c cs (below c t.0) (all_ascii cs t.1)

sign_ascii : (w : List ℕ) → get_or w 0 0 < 128 → IsAscii (drop 1 w) → IsAscii w
sign_ascii [] p h = IsAscii-nil
sign_ascii (c ∷ cs) p h = IsAscii-cons c cs p h

no_digits : (most : ℕ) (ds : List ℕ) → ¬ (IsAscii ds) → limited most (digits_in ds) ≡ None
no_digits most ds n = lost most ds (λ t. n (all_ascii ds t.0))

pub unsigned_none : (most : ℕ) (w : List ℕ) → ¬ (IsUtf8 w) → unsigned_in most w ≡ None
unsigned_none most w n =
    ⊎_elim
    (λ e. ap (λ ds. limited most (digits_in ds)) (cond-true (eqb (get_or w 0 0) 43) (drop 1 w) w (eq-eqb (get_or w 0 0) 43 e)) ∙ no_digits most (drop 1 w) (λ a. n (IsUtf8-from_ascii w (sign_ascii w (omega (arith, e)) a))))
    (λ e. ap (λ ds. limited most (digits_in ds)) (cond-false (eqb (get_or w 0 0) 43) (drop 1 w) w (ne_eqb (get_or w 0 0) 43 e)) ∙ no_digits most w (λ a. n (IsUtf8-from_ascii w a)))
    (cases_eq (get_or w 0 0) 43)

pub signed_none : (low high : ℕ) (w : List ℕ) → ¬ (IsUtf8 w) → signed_in low high w ≡ None
signed_none low high w n =
    ⊎_elim
    (λ e. cond-true (eqb (get_or w 0 0) 45) _ _ (eq-eqb (get_or w 0 0) 45 e) ∙ ap minus (no_digits low (drop 1 w) (λ a. n (IsUtf8-from_ascii w (sign_ascii w (omega (arith, e)) a)))))
    (λ e. cond-false (eqb (get_or w 0 0) 45) _ _ (ne_eqb (get_or w 0 0) 45 e) ∙ ap plus (unsigned_none high w n))
    (cases_eq (get_or w 0 0) 45)

-- A WORD THAT IS TOO LONG

ten_times : (n d p q r : ℕ) → q ≡ 10 * p → (n * 10 + d) * p ≤ r → n * q ≤ r
ten_times n d p q r e h = rw e (omega (arith, h))

-- each digit makes a number at least ten times as large
grown : (n : ℕ) (ds : List ℕ) → n * 10 ^ length ds ≤ value n ds
grown n [] = omega arith
grown n (c ∷ cs) = ten_times n (c - 48) (10 ^ length cs) (10 ^ suc (length cs)) (value (n * 10 + (c - 48)) cs) (pow-succ' 10 (length cs)) (grown (n * 10 + (c - 48)) cs)

ten_more : (n : ℕ) (ds : List ℕ) → 0 < n → 10 ≤ length ds → 10 ^ 10 ≤ value n ds
ten_more n ds p q =
    let h : 10 ^ 10 ≤ 10 ^ length ds = pow-le-pow_right (lit< tt) q in
    let k : 1 * 10 ^ length ds ≤ n * 10 ^ length ds = mul-le-mul_right (10 ^ length ds) p in
    omega (arith, h, k, grown n ds)

large_here : (c : ℕ) (cs : List ℕ) → eqb c 48 ≡ false → is_digit c ≡ true → 10 < length (after_zeros (c ∷ cs)) → 10 ^ 10 ≤ value (0 + (c - 48)) cs
large_here c cs e h p =
    let k : 10 ≤ length cs = grind (arith, common_steps) in
    let d : 0 < 0 + (c - 48) = grind (arith, common_steps) in
    ten_more (0 + (c - 48)) cs d k

large_more : (c : ℕ) (cs : List ℕ) → eqb c 48 ≡ true → (10 < length (after_zeros cs) → 10 ^ 10 ≤ value 0 cs) → 10 < length (after_zeros (c ∷ cs)) → 10 ^ 10 ≤ value (0 + (c - 48)) cs
large_more c cs e h p =
    let k : 0 + (c - 48) ≡ 0 = grind (arith, common_steps) in
    rw k (h (grind (arith, common_steps)))

-- ten digits and one after leading zeros give ten thousand millions or more
large : (ds : List ℕ) → all ds ≡ true → 10 < length (after_zeros ds) → 10 ^ 10 ≤ value 0 ds
large [] h p = absurd (omega arith)
large (c ∷ cs) h p = ⊎_elim (λ e. large_more c cs e (large cs (and_parts (is_digit c) (all cs) h).1) p) (λ e. large_here c cs e (and_parts (is_digit c) (all cs) h).0 p) (cases_Bool (eqb c 48))

no_limit : (most : ℕ) → ltb most 10000000000 ≡ true → (ds : List ℕ) → 10 < length (after_zeros ds) → limited most (digits_in ds) ≡ None
no_limit most m ds p = lost most ds (λ t. let l = large ds t.0 p in let k = ltb-true most 10000000000 m in omega (arith, l, k, t.2))

signed_at : (w : List ℕ) → (get_or w 0 0 ≡ 43) ⊎ (get_or w 0 0 ≡ 45) → is_too_long w ≡ true → 10 < length (after_zeros (drop 1 w))
signed_at w h p = grind (arith, common_steps)

plain_at : (w : List ℕ) → (get_or w 0 0 ≡ 43 → ⊥) → (get_or w 0 0 ≡ 45 → ⊥) → is_too_long w ≡ true → 10 < length (after_zeros w)
plain_at w p q h = grind (arith, common_steps)

no_sign : (w : List ℕ) → get_or w 0 0 ≡ 45 → all w ≡ true → ⊥
no_sign [] e h = cc
no_sign (c ∷ cs) e h = let k = and_parts (is_digit c) (all cs) h in grind (arith, common_steps)

unsigned_plain : (most : ℕ) → ltb most 10000000000 ≡ true → (w : List ℕ) → (get_or w 0 0 ≡ 43 → ⊥) → is_too_long w ≡ true → limited most (digits_in w) ≡ None
unsigned_plain most m w n h =
    ⊎_elim
    (λ e. lost most w (λ t. no_sign w e t.0))
    (λ e. no_limit most m w (plain_at w n e h))
    (cases_eq (get_or w 0 0) 45)

pub unsigned_long : (most : ℕ) → ltb most 10000000000 ≡ true → (w : List ℕ) → is_too_long w ≡ true → unsigned_in most w ≡ None
unsigned_long most m w h =
    ⊎_elim
    (λ e. ap (λ ds. limited most (digits_in ds)) (cond-true (eqb (get_or w 0 0) 43) (drop 1 w) w (eq-eqb (get_or w 0 0) 43 e)) ∙ no_limit most m (drop 1 w) (signed_at w (inl e) h))
    (λ n. ap (λ ds. limited most (digits_in ds)) (cond-false (eqb (get_or w 0 0) 43) (drop 1 w) w (ne_eqb (get_or w 0 0) 43 n)) ∙ unsigned_plain most m w n h)
    (cases_eq (get_or w 0 0) 43)

pub signed_long : (low high : ℕ) → ltb low 10000000000 ≡ true → ltb high 10000000000 ≡ true → (w : List ℕ) → is_too_long w ≡ true → signed_in low high w ≡ None
signed_long low high l m w h =
    ⊎_elim
    (λ e. cond-true (eqb (get_or w 0 0) 45) _ _ (eq-eqb (get_or w 0 0) 45 e) ∙ ap minus (no_limit low l (drop 1 w) (signed_at w (inr e) h)))
    (λ n. cond-false (eqb (get_or w 0 0) 45) _ _ (ne_eqb (get_or w 0 0) 45 n) ∙ ap plus (unsigned_long high m w h))
    (cases_eq (get_or w 0 0) 45)
