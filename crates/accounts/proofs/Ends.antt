-- A run ends: each step grants a number, so its count of steps never runs out; and what it writes fits.
use Rattle.std.proofs.Common.{◌≡◌, ℕ, zero, suc, ◌+◌, ◌-◌, ◌<◌, ◌≤◌, Bool, true, false, cond, not, ◌||◌, ltb, [], ◌∷◌, length, is_some, Some, None, Option, sym, refl, ap, ◌∙◌, arith, length-append, ltb-false}
use Rattle.rules.specs.Fractions.{Fraction}
use Rattle.rules.specs.Stamps.{Stamp}
use Rattle.rules.specs.Pages.{News, met, parted}
use Rattle.model.specs.Halls.{Hall, left, next_due}
use Rattle.model.specs.Moves.{fire}
use Rattle.model.specs.Runs.{step, records, and_then, run_on, run_in, run, ending}
use Rattle.accounts.specs.Laws.{RunsEnd}
use Rattle.accounts.proofs.Counts.{fire_within}
use Rattle.accounts.proofs.Sound.{Due, next_holds, unfit}

-- where the run goes on: what is due, with room for lines and bytes, and numbers enough
record Goes (goal : Fraction) (lines bytes : ℕ) (m : Hall) (f : ℕ × Stamp) : Type 0 where
  due : Due m f
  room : 380 ≤ lines
  space : 11 ≤ bytes
  numbers : 190 ≤ left m

or_left : (x y : Bool) → x || y ≡ false → x ≡ false
or_left false y e = refl
or_left true y e = e

or_right : (x y : Bool) → x || y ≡ false → y ≡ false
or_right false y e = e
or_right true y e = let z : ◌≡◌ {A = ℕ} 0 1 = cc in absurd (omega arith)

goes : (goal : Fraction) (lines bytes : ℕ) (m : Hall) (f : ℕ × Stamp) → next_due goal m ≡ Some f → ending (next_due goal m) lines bytes m ≡ None → Goes goal lines bytes m f
goes goal lines bytes m f p q =
    let r = unfit ((0, not (is_some (next_due goal m))) ∷ (15, ltb lines 380 || ltb bytes 11) ∷ (16, ltb (left m) 190) ∷ []) q in
    record {
      due = next_holds goal m f p;
      room = ltb-false lines 380 (or_left (ltb lines 380) (ltb bytes 11) r.1.0);
      space = ltb-false bytes 11 (or_right (ltb lines 380) (ltb bytes 11) r.1.0);
      numbers = ltb-false (left m) 190 r.1.1.0;
    }

-- fewer numbers are left after a step
fewer : (goal : Fraction) (lines bytes : ℕ) (m : Hall) (f : ℕ × Stamp) → Goes goal lines bytes m f → left (fire f.0 f.1 m).hall < left m
fewer goal lines bytes m f g = less m.last (fire f.0 f.1 m).hall.last (fire_within f.0 f.1 m g.due.slot).1 g.numbers
  where
    less : (a b : ℕ) → a < b → 190 ≤ 20000000 - a → 20000000 - b < 20000000 - a
    less a b p q = omega arith

-- more steps allowed than numbers are left make no difference
enough : (n k : ℕ) (goal : Fraction) (lines bytes : ℕ) (m : Hall) → left m < n → left m < k → run_in n goal lines bytes m ≡ run_in k goal lines bytes m
enough zero k goal lines bytes m p q = absurd (omega arith)
enough (suc n) zero goal lines bytes m p q = absurd (omega arith)
enough (suc n) (suc k) goal lines bytes m p q = by (λ l b h x y. enough n k goal l b h x y) (next_due goal m) (ending (next_due goal m) lines bytes m) refl refl
  where
    by : ((l b : ℕ) (h : Hall) → left h < n → left h < k → run_in n goal l b h ≡ run_in k goal l b h) → (f : Option (ℕ × Stamp)) (o : Option ℕ) → next_due goal m ≡ f → ending (next_due goal m) lines bytes m ≡ o →
        run_on (run_in n goal) f o lines bytes m ≡ run_on (run_in k goal) f o lines bytes m
    by more None None e g = refl
    by more None (Some j) e g = refl
    by more (Some f) (Some j) e g = refl
    by more (Some f) None e g =
        let u = fewer goal lines bytes m f (goes goal lines bytes m f e g) in
        let h = (fire f.0 f.1 m).hall in
        ap (and_then (step f.0 f.1 m)) (more _ _ h (shorter (left h) (left m) n u p) (shorter (left h) (left m) k u q))
      where
        shorter : (a b c : ℕ) → a < b → b < suc c → a < c
        shorter a b c x y = omega arith

again : (goal : Fraction) (lines bytes : ℕ) (m : Hall) → run goal lines bytes m ≡ run_on (run goal) (next_due goal m) (ending (next_due goal m) lines bytes m) lines bytes m
again goal lines bytes m = by (next_due goal m) (ending (next_due goal m) lines bytes m) refl refl
  where
    by : (f : Option (ℕ × Stamp)) (o : Option ℕ) → next_due goal m ≡ f → ending (next_due goal m) lines bytes m ≡ o → run_on (run_in (left m) goal) f o lines bytes m ≡ run_on (run goal) f o lines bytes m
    by None None e g = refl
    by None (Some j) e g = refl
    by (Some f) (Some j) e g = refl
    by (Some f) None e g =
        let u = fewer goal lines bytes m f (goes goal lines bytes m f e g) in
        let h = (fire f.0 f.1 m).hall in
        ap (and_then (step f.0 f.1 m)) (enough (left m) (suc (left h)) goal _ _ h u (one_more (left h)))
      where
        one_more : (a : ℕ) → a < suc a
        one_more a = omega arith

-- where something is due a run does not end with 0
not_over : (f : ℕ × Stamp) (lines bytes : ℕ) (m : Hall) (j : ℕ) → ending (Some f) lines bytes m ≡ Some j → j ≡ 0 → ⊥
not_over f lines bytes m j e z = by (ltb lines 380 || ltb bytes 11) (ltb (left m) 190) e
  where
    same : (a : ℕ) → Some a ≡ Some j → a ≡ j
    same a g = cc

    by : (x y : Bool) → cond x (Some 15) (cond y (Some 16) None) ≡ Some j → ⊥
    by true y g = let h = same 15 g in omega arith
    by false true g = let h = same 16 g in omega arith
    by false false g = let w : ◌≡◌ {A = ℕ} 0 1 = cc in omega arith

over : (n : ℕ) (goal : Fraction) (lines bytes : ℕ) (m : Hall) → left m < n → (run_in n goal lines bytes m).ended ≡ 0 → next_due goal (run_in n goal lines bytes m).hall ≡ None
over zero goal lines bytes m p z = absurd (omega arith)
over (suc n) goal lines bytes m p z = by (λ l b h x y. over n goal l b h x y) (next_due goal m) (ending (next_due goal m) lines bytes m) refl refl z
  where
    by : ((l b : ℕ) (h : Hall) → left h < n → (run_in n goal l b h).ended ≡ 0 → next_due goal (run_in n goal l b h).hall ≡ None) → (f : Option (ℕ × Stamp)) (o : Option ℕ) → next_due goal m ≡ f → ending (next_due goal m) lines bytes m ≡ o →
        (run_on (run_in n goal) f o lines bytes m).ended ≡ 0 → next_due goal (run_on (run_in n goal) f o lines bytes m).hall ≡ None
    by more None None e g z = e
    by more None (Some j) e g z = e
    by more (Some f) (Some j) e g z = absurd (not_over f lines bytes m j (ap (λ (o : Option (ℕ × Stamp)). ending o lines bytes m) (sym e) ∙ g) z)
    by more (Some f) None e g z =
        let u = fewer goal lines bytes m f (goes goal lines bytes m f e g) in
        let h = (fire f.0 f.1 m).hall in
        more _ _ h (shorter (left h) (left m) n u p) z
      where
        shorter : (a b c : ℕ) → a < b → b < suc c → a < c
        shorter a b c x y = omega arith

-- a record has 11 bytes
pub eleven : (t : Fraction) (w : Option News) → length (records t w) ≤ 11
eleven t None = omega arith
eleven t (Some (met c d)) = omega arith
eleven t (Some (parted c d)) = omega arith

fits : (n : ℕ) (goal : Fraction) (lines bytes : ℕ) (m : Hall) → (length (run_in n goal lines bytes m).lines ≤ lines) × (length (run_in n goal lines bytes m).page ≤ bytes)
fits zero goal lines bytes m = (omega arith, omega arith)
fits (suc n) goal lines bytes m = by (λ l b h. fits n goal l b h) (next_due goal m) (ending (next_due goal m) lines bytes m) refl refl
  where
    sum : (a b c l : ℕ) → c ≡ a + b → a ≤ l → b ≤ l - a → c ≤ l
    sum a b c l p q r = omega arith

    up : (a b c : ℕ) → a ≤ b → b ≤ c → a ≤ c
    up a b c p q = omega arith

    by : ((l b : ℕ) (h : Hall) → (length (run_in n goal l b h).lines ≤ l) × (length (run_in n goal l b h).page ≤ b)) → (f : Option (ℕ × Stamp)) (o : Option ℕ) → next_due goal m ≡ f → ending (next_due goal m) lines bytes m ≡ o →
        (length (run_on (run_in n goal) f o lines bytes m).lines ≤ lines) × (length (run_on (run_in n goal) f o lines bytes m).page ≤ bytes)
    by more None None e g = (omega arith, omega arith)
    by more None (Some j) e g = (omega arith, omega arith)
    by more (Some f) (Some j) e g = (omega arith, omega arith)
    by more (Some f) None e g =
        let go = goes goal lines bytes m f e g in
        let s = step f.0 f.1 m in
        let w = (fire_within f.0 f.1 m go.due.slot).0.lines in
        let l = lines - length s.out.lines in
        let b = bytes - length (records s.time s.news) in
        let r = run_in n goal l b s.out.hall in
        let h = more l b s.out.hall in (
          sum _ _ _ lines (length-append s.out.lines r.lines) (up _ 380 _ w go.room) h.0,
          sum _ _ _ bytes (length-append (records s.time s.news) r.page) (up _ 11 _ (eleven s.time s.news) go.space) h.1,
        )

pub runs_end : RunsEnd
runs_end goal lines bytes m = record {
  ends = over (suc (left m)) goal lines bytes m (one_more (left m));
  slip = (fits (suc (left m)) goal lines bytes m).0;
  page = (fits (suc (left m)) goal lines bytes m).1;
  again = again goal lines bytes m;
}
  where
    one_more : (a : ℕ) → a < suc a
    one_more a = omega arith
