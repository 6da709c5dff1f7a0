-- Reading back what was written.
use Rattle.std.proofs.Common.{◌≡◌, ℕ, zero, suc, ◌+◌, ◌*◌, ◌/◌, ◌%◌, ◌^◌, ◌<◌, ◌≤◌, Bool, true, false, cond, ◌&&◌, eqb, ◌⊎◌, List, [], ◌∷◌, ◌++◌, map, length, get_or, take, drop, Some, None, Option, sym, refl, ap, ◌∙◌, subst, inl, inr, ⊎_elim, arith, length-drop}
use Rattle.std.proofs.lemmas.Bool.{eqb-true}
use Rattle.std.proofs.lemmas.List.{take-append-drop}
use Rattle.rules.specs.Fractions.{Fraction}
use Rattle.rules.specs.Pages.{News, met, parted, Report, bytes, number, news_record, page_record, page_of, report_in, at_time, before_rest, reports_in, page_read}
use Rattle.times.specs.declared.time.Time.{Time}
use Rattle.times.specs.Of.{time_of}
use Rattle.pages.specs.Of.{report_of}
use Rattle.pages.specs.Laws.{ReportFits, ReportsFit, BytesFit, ReadsBack, WrittenBack, OnlyPages, NoPage, ReadInTurn}

-- NUMBERS AND THEIR BYTES

sums : (a b c d p q r n : ℕ) → a ≡ p → b + 256 * p ≡ q → c + 256 * q ≡ r → d + 256 * r ≡ n → number (a ∷ b ∷ c ∷ d ∷ []) ≡ n
sums a b c d p q r n s3 s2 s1 s0 = omega arith

number4 : (n : ℕ) → n < 2 ^ 32 → number (bytes 4 n) ≡ n
number4 n h =
    let e1 : n / 65536 ≡ n / 256 / 256 = omega arith in
    let e2 : n / 16777216 ≡ n / 256 / 256 / 256 = omega arith in
    let s3 : n / 16777216 % 256 ≡ n / 256 / 256 / 256 = omega arith in
    let s2 : n / 65536 % 256 + 256 * (n / 256 / 256 / 256) ≡ n / 256 / 256 = omega arith in
    let s1 : n / 256 % 256 + 256 * (n / 256 / 256) ≡ n / 256 = omega arith in
    let s0 : n / 1 % 256 + 256 * (n / 256) ≡ n = omega arith in
    sums _ _ _ _ _ _ _ n s3 s2 s1 s0

number2 : (n : ℕ) → n < 2 ^ 16 → number (bytes 2 n) ≡ n
number2 n h = omega arith

bytes4 : (a b c d : ℕ) → a < 256 → b < 256 → c < 256 → d < 256 → bytes 4 (number (a ∷ b ∷ c ∷ d ∷ [])) ≡ a ∷ b ∷ c ∷ d ∷ []
bytes4 a b c d p q r s =
    let n : ℕ = number (a ∷ b ∷ c ∷ d ∷ []) in
    let e0 : n / 16777216 % 256 ≡ a = omega arith in
    let e1 : n / 65536 % 256 ≡ b = omega arith in
    let e2 : n / 256 % 256 ≡ c = omega arith in
    let e3 : n / 1 % 256 ≡ d = omega arith in
    cc

bytes2 : (a b : ℕ) → a < 256 → b < 256 → bytes 2 (number (a ∷ b ∷ [])) ≡ a ∷ b ∷ []
bytes2 a b p q =
    let n : ℕ = number (a ∷ b ∷ []) in
    let e2 : n / 256 % 256 ≡ a = omega arith in
    let e3 : n / 1 % 256 ≡ b = omega arith in
    cc

-- ANY NUMBER OF STEPS THAT IS ENOUGH GIVES THE SAME

enough : (k m : ℕ) (bs : List ℕ) → length bs ≤ k → length bs ≤ m → reports_in k bs ≡ reports_in m bs
enough k m [] p q = refl
enough zero m (b ∷ bs) p q = absurd (omega arith)
enough (suc k) zero (b ∷ bs) p q = absurd (omega arith)
enough (suc k) (suc m) (b ∷ bs) p q =
    ap (before_rest (report_in (take 11 (b ∷ bs)))) (enough k m (drop 11 (b ∷ bs)) (rw length-drop (omega arith)) (rw length-drop (omega arith)))

pub in_turn : ReadInTurn
in_turn b bs =
    ap (before_rest (report_in (take 11 (b ∷ bs))))
    (enough (length bs) (length (drop 11 (b ∷ bs))) (drop 11 (b ∷ bs)) (rw length-drop (omega arith)) (omega arith))

-- WRITTEN, THEN READ

-- one record, whatever comes after it
one_back : (w : News) (t : Fraction) (more : List ℕ) → t.num < 2 ^ 32 → t.den < 2 ^ 16
    → page_read (news_record w t ++ more) ≡ before_rest (Some (record { time = t; news = w })) (page_read more)
one_back (met c d) t more p q =
    in_turn 1 (drop 1 (news_record (met c d) t) ++ more)
    ∙ ap (λ (x : ℕ). before_rest (Some (record { time = record { num = x; den = number (bytes 2 t.den) }; news = met c d })) (page_read more)) (number4 t.num p)
    ∙ ap (λ (x : ℕ). before_rest (Some (record { time = record { num = t.num; den = x }; news = met c d })) (page_read more)) (number2 t.den q)
one_back (parted c d) t more p q =
    in_turn 2 (drop 1 (news_record (parted c d) t) ++ more)
    ∙ ap (λ (x : ℕ). before_rest (Some (record { time = record { num = x; den = number (bytes 2 t.den) }; news = parted c d })) (page_read more)) (number4 t.num p)
    ∙ ap (λ (x : ℕ). before_rest (Some (record { time = record { num = t.num; den = x }; news = parted c d })) (page_read more)) (number2 t.den q)

pub back : ReadsBack
back [] f = refl
back (r ∷ rs) f =
    one_back r.news r.time (page_of rs) f.0.num f.0.den
    ∙ ap (before_rest (Some r)) (back rs f.1)

pub no_page : NoPage
no_page bs e rs f p =
    let q : page_read (page_of rs) ≡ Some rs = back rs f in
    let s : page_read (page_of rs) ≡ page_read bs = ap page_read p in
    let z : ◌≡◌ {A = ℕ} 0 1 = cc in omega arith

-- every time of the code fits its places
small_num : (t : Time) → (time_of t).num < 2 ^ 32
small_num t = omega (arith, t.small, t.inside)

small_den : (t : Time) → (time_of t).den < 2 ^ 16
small_den t = omega (arith, t.small)

pub written_back : WrittenBack
written_back [] = refl
written_back (r ∷ rs) =
    one_back (report_of r).news (time_of r.time) (page_of (map report_of rs)) (small_num r.time) (small_den r.time)
    ∙ ap (before_rest (Some (report_of r))) (written_back rs)

-- READ, THEN WRITTEN

-- the first n bytes, one by one
abbrev front : ℕ → List ℕ → List ℕ
front zero bs = []
front (suc n) bs = get_or bs 0 0 ∷ front n (drop 1 bs)

front_all : (n : ℕ) (bs : List ℕ) → length bs ≡ n → front n bs ≡ bs
front_all zero [] e = refl
front_all zero (b ∷ bs) e = absurd (omega arith)
front_all (suc n) [] e = absurd (omega arith)
front_all (suc n) (b ∷ bs) e = ap (λ l. b ∷ l) (front_all n bs (omega arith))

abbrev IsRecord : List ℕ → Report → Type 0
IsRecord bs r = (page_record r ≡ bs) × ReportFits r

-- what the three tests of a record came to, where it tells a report
told_by : (x y z : Bool) (a b : ℕ) (t : Fraction) (r : Report)
    → cond x (at_time t (cond y (Some (met a b)) (cond z (Some (parted a b)) None))) None ≡ Some r
    → (x ≡ true) × (((y ≡ true) × (r ≡ record { time = t; news = met a b })) ⊎ ((z ≡ true) × (r ≡ record { time = t; news = parted a b })))
told_by true true z a b t r e = (refl, inl (refl, cc))
told_by true false true a b t r e = (refl, inr (refl, cc))
told_by true false false a b t r e = absurd (let w : ◌≡◌ {A = ℕ} 0 1 = cc in omega arith)
told_by false y z a b t r e = absurd (let w : ◌≡◌ {A = ℕ} 0 1 = cc in omega arith)

-- 11 bytes that tell a report are its record
record_one : (tag h l a b n0 n1 n2 n3 d0 d1 : ℕ) (r : Report)
    → BytesFit (tag ∷ h ∷ l ∷ a ∷ b ∷ n0 ∷ n1 ∷ n2 ∷ n3 ∷ d0 ∷ d1 ∷ [])
    → report_in (tag ∷ h ∷ l ∷ a ∷ b ∷ n0 ∷ n1 ∷ n2 ∷ n3 ∷ d0 ∷ d1 ∷ []) ≡ Some r
    → IsRecord (tag ∷ h ∷ l ∷ a ∷ b ∷ n0 ∷ n1 ∷ n2 ∷ n3 ∷ d0 ∷ d1 ∷ []) r
record_one tag h l a b n0 n1 n2 n3 d0 d1 r f e =
    let t : Fraction = record { num = number (n0 ∷ n1 ∷ n2 ∷ n3 ∷ []); den = number (d0 ∷ d1 ∷ []) } in
    let w = told_by (eqb (number (h ∷ l ∷ [])) 8) (eqb tag 1) (eqb tag 2) a b t r e in
    let eight : number (h ∷ l ∷ []) ≡ 8 = eqb-true _ 8 w.0 in
    let fl : l < 256 = f.1.1.0 in
    let fa : a < 256 = f.1.1.1.0 in
    let fb : b < 256 = f.1.1.1.1.0 in
    let m0 : n0 < 256 = f.1.1.1.1.1.0 in
    let m1 : n1 < 256 = f.1.1.1.1.1.1.0 in
    let m2 : n2 < 256 = f.1.1.1.1.1.1.1.0 in
    let m3 : n3 < 256 = f.1.1.1.1.1.1.1.1.0 in
    let q0 : d0 < 256 = f.1.1.1.1.1.1.1.1.1.0 in
    let q1 : d1 < 256 = f.1.1.1.1.1.1.1.1.1.1.0 in
    let high : 0 ≡ h = omega arith in
    let low : 8 ≡ l = omega arith in
    let num : t.num < 2 ^ 32 = omega arith in
    let den : t.den < 2 ^ 16 = omega arith in
    let after : (k : ℕ) → k ≡ tag → k ∷ 0 ∷ 8 ∷ a ∷ b ∷ (bytes 4 t.num ++ bytes 2 t.den) ≡ tag ∷ h ∷ l ∷ a ∷ b ∷ n0 ∷ n1 ∷ n2 ∷ n3 ∷ d0 ∷ d1 ∷ [] =
    λ k g. ap (λ (x : List ℕ). k ∷ 0 ∷ 8 ∷ a ∷ b ∷ (x ++ bytes 2 t.den)) (bytes4 n0 n1 n2 n3 m0 m1 m2 m3)
    ∙ ap (λ (x : List ℕ). k ∷ 0 ∷ 8 ∷ a ∷ b ∷ n0 ∷ n1 ∷ n2 ∷ n3 ∷ x) (bytes2 d0 d1 q0 q1)
    ∙ ap (λ (x : ℕ). x ∷ 0 ∷ 8 ∷ a ∷ b ∷ n0 ∷ n1 ∷ n2 ∷ n3 ∷ d0 ∷ d1 ∷ []) g
    ∙ ap (λ (x : ℕ). tag ∷ x ∷ 8 ∷ a ∷ b ∷ n0 ∷ n1 ∷ n2 ∷ n3 ∷ d0 ∷ d1 ∷ []) high
    ∙ ap (λ (x : ℕ). tag ∷ h ∷ x ∷ a ∷ b ∷ n0 ∷ n1 ∷ n2 ∷ n3 ∷ d0 ∷ d1 ∷ []) low in
    let G : Report → Type 0 = IsRecord (tag ∷ h ∷ l ∷ a ∷ b ∷ n0 ∷ n1 ∷ n2 ∷ n3 ∷ d0 ∷ d1 ∷ []) in
    ⊎_elim
    (λ p. subst G (sym p.1) (after 1 (sym (eqb-true tag 1 p.0)), record { craft = (fa, fb); num = num; den = den }))
    (λ p. subst G (sym p.1) (after 2 (sym (eqb-true tag 2 p.0)), record { craft = (fa, fb); num = num; den = den }))
    w.1

-- bytes that tell a report are 11
passed : (x y : Bool) (o : Option Report) (r : Report) → cond (x && y) o None ≡ Some r → x ≡ true
passed true y o r e = refl
passed false y o r e = absurd (let w : ◌≡◌ {A = ℕ} 0 1 = cc in omega arith)

eleven : (bs : List ℕ) (r : Report) → report_in bs ≡ Some r → length bs ≡ 11
eleven bs r e = eqb-true (length bs) 11 (passed (eqb (length bs) 11) _ _ r e)

record_only : (bs : List ℕ) (r : Report) → BytesFit bs → report_in bs ≡ Some r → IsRecord bs r
record_only bs r f e =
    let s : front 11 bs ≡ bs = front_all 11 bs (eleven bs r e) in
    let G : List ℕ → Type 0 = λ l. BytesFit l → report_in l ≡ Some r → IsRecord l r in
    subst G s (record_one _ _ _ _ _ _ _ _ _ _ _ r) f e

-- a first report and what is left, both told
both_told : (o : Option Report) (p : Option (List Report)) (rs : List Report) → before_rest o p ≡ Some rs
    → (r : Report) × (qs : List Report) × ((o ≡ Some r) × (p ≡ Some qs) × (rs ≡ r ∷ qs))
both_told None p rs e = absurd (let z : ◌≡◌ {A = ℕ} 0 1 = cc in omega arith)
both_told (Some r) None rs e = absurd (let z : ◌≡◌ {A = ℕ} 0 1 = cc in omega arith)
both_told (Some r) (Some qs) rs e = (r, qs, (refl, refl, cc))

fit_take : (n : ℕ) (bs : List ℕ) → BytesFit bs → BytesFit (take n bs)
fit_take zero bs f = tt
fit_take (suc n) [] f = tt
fit_take (suc n) (b ∷ bs) f = (f.0, fit_take n bs f.1)

fit_drop : (n : ℕ) (bs : List ℕ) → BytesFit bs → BytesFit (drop n bs)
fit_drop zero bs f = f
fit_drop (suc n) [] f = tt
fit_drop (suc n) (b ∷ bs) f = fit_drop n bs f.1

only_in : (k : ℕ) (bs : List ℕ) (rs : List Report) → BytesFit bs → reports_in k bs ≡ Some rs → (page_of rs ≡ bs) × ReportsFit rs
only_in k [] rs f e =
    let z : rs ≡ [] = cc in
    subst (λ (q : List Report). (page_of q ≡ []) × ReportsFit q) (sym z) (refl, tt)
only_in zero (b ∷ bs) rs f e = absurd (let z : ◌≡◌ {A = ℕ} 0 1 = cc in omega arith)
only_in (suc k) (b ∷ bs) rs f e =
    let t = both_told (report_in (take 11 (b ∷ bs))) (reports_in k (drop 11 (b ∷ bs))) rs e in
    let one = record_only (take 11 (b ∷ bs)) t.0 (fit_take 11 (b ∷ bs) f) t.2.0 in
    let more = only_in k (drop 11 (b ∷ bs)) t.1 (fit_drop 11 (b ∷ bs) f) t.2.1 in
    subst (λ (q : List Report). (page_of q ≡ b ∷ bs) × ReportsFit q) (sym t.2.2) (
      ap (λ (x : List ℕ). x ++ page_of t.1) one.0 ∙ ap (λ (y : List ℕ). take 11 (b ∷ bs) ++ y) more.0 ∙ take-append-drop 11 (b ∷ bs),
      (one.1, more.1),
    )

pub only : OnlyPages
only bs rs f e = only_in (length bs) bs rs f e
