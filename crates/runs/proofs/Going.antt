-- A run, step by step.
use Rattle.std.proofs.Common.{◌≡◌, ℕ, suc, ◌+◌, ◌-◌, ◌<◌, ◌≤◌, List, [], ◌++◌, length, drop, Some, None, Option, sym, refl, ap, ◌∙◌, subst, add-zero, zero-add, arith}
use Rattle.std.proofs.lemmas.List.{append-nil, append_assoc, length-append}
use Rattle.rules.specs.Fractions.{Fraction}
use Rattle.rules.specs.Stamps.{Stamp}
use Rattle.model.specs.Halls.{Hall, left, next_due}
use Rattle.model.specs.Moves.{fire}
use Rattle.model.specs.Runs.{Step, Ran, step, records, and_then, ended_with, run, run_on}
use Rattle.floor_laws.specs.Writing.{Wrote, Fits, written}
use Rattle.floor_laws.proofs.Writes.{written_then, written_none, written_start, written_length}
use Rattle.accounts.proofs.Counts.{fire_within}
use Rattle.accounts.proofs.Ends.{runs_end, eleven}
use Rattle.runs.specs.Running.{Next, Stop, Went}

-- a run after what was written so far
abbrev prefixed : List ℕ → List ℕ → ℕ → Ran → Ran
prefixed ls ps k r = record { hall = r.hall; lines = ls ++ r.lines; page = ps ++ r.page; ended = r.ended; steps = k + r.steps }

-- what a run has done so far, and that the rest of it is the run from here
pub record Going (goal : Fraction) (m₀ m : Hall) (s₀ s p₀ p : List ℕ) (k n b : ℕ) : Type 0 where
  pub told : List ℕ
  pub noted : List ℕ
  pub slip : s ≡ written 0 told s₀
  pub page : p ≡ written 0 noted p₀
  pub lines : n ≡ length told
  pub bytes : b ≡ length noted
  pub room : n ≤ length s₀
  pub space : b ≤ length p₀
  pub tally : k + left m ≤ left m₀
  pub whole : run goal (length s₀) (length p₀) m₀ ≡ prefixed told noted k (run goal (length s₀ - n) (length p₀ - b) m)

fresh : (r : Ran) → r ≡ prefixed [] [] 0 r
fresh r t = record { hall = r.hall; lines = r.lines; page = r.page; ended = r.ended; steps = sym (zero-add r.steps) t }

same_room : (goal : Fraction) (l l' b b' : ℕ) (m m' : Hall) → l ≡ l' → b ≡ b' → m ≡ m' → run goal l b m ≡ run goal l' b' m'
same_room goal l l' b b' m m' e f g t = run goal (e t) (f t) (g t)

pub going_none : (goal : Fraction) (m : Hall) (s p : List ℕ) → Going goal m m s s p p 0 0 0
going_none goal m s p = record {
  told = [];
  noted = [];
  slip = sym (written_none 0 s);
  page = sym (written_none 0 p);
  lines = refl;
  bytes = refl;
  room = omega arith;
  space = omega arith;
  tally = same (left m);
  whole = fresh (run goal (length s) (length p) m) ∙ ap (prefixed [] [] 0) (same_room goal (length s) (length s - 0) (length p) (length p - 0) m m (omega arith) (omega arith) refl);
}
  where
    same : (x : ℕ) → 0 + x ≤ x
    same x = omega arith

pub going_new : (goal : Fraction) (m : Hall) (s p : List ℕ) (n b : ℕ) → n ≡ 0 → b ≡ 0 → Going goal m m s s p p 0 n b
going_new goal m s p n b e f =
    subst (λ (i : ℕ). Going goal m m s s p p 0 i b) (sym e) (subst (λ (i : ℕ). Going goal m m s s p p 0 0 i) (sym f) (going_none goal m s p))

-- a slip and a page keep their lengths
kept : (n : ℕ) (a s s₀ : List ℕ) → n ≡ length a → n ≤ length s₀ → s ≡ written 0 a s₀ → length s ≡ length s₀
kept n a s s₀ e h p = ap length p ∙ written_length 0 a s₀ (omega arith)

module _ (goal : Fraction) (m₀ m : Hall) (s₀ s p₀ p : List ℕ) (k n b : ℕ) (g : Going goal m₀ m s₀ s p₀ p k n b) where
  pub going_slip : length s ≡ length s₀
  going_slip = kept n g.told s s₀ g.lines g.room g.slip

  pub going_page : length p ≡ length p₀
  going_page = kept b g.noted p p₀ g.bytes g.space g.page

more_written : (n : ℕ) (a b s₀ s s' : List ℕ) → n ≡ length a → n ≤ length s₀ → s ≡ written 0 a s₀ → s' ≡ written n b s → s' ≡ written 0 (a ++ b) s₀
more_written n a b s₀ s s' e h p q =
    q ∙ ap (written n b) p ∙ ap (λ (i : ℕ). written i b (written 0 a s₀)) (e ∙ sym (zero-add (length a))) ∙ written_then 0 a b s₀ (omega arith)

more_long : (n r : ℕ) (a b : List ℕ) → n ≡ length a → r ≡ n + length b → r ≡ length (a ++ b)
more_long n r a b e f = f ∙ ap (λ (i : ℕ). i + length b) e ∙ sym (length-append a b)

stepped : (ls ps : List ℕ) (k : ℕ) (st : Step) (r : Ran) → prefixed ls ps k (and_then st r) ≡ prefixed (ls ++ st.out.lines) (ps ++ records st.time st.news) (k + 1) r
stepped ls ps k st r t = record {
  hall = r.hall;
  lines = sym (append_assoc ls st.out.lines r.lines) t;
  page = sym (append_assoc ps (records st.time st.news) r.page) t;
  ended = r.ended;
  steps = count k r.steps t;
}
  where
    count : (x y : ℕ) → x + suc y ≡ x + 1 + y
    count x y = omega arith

ended_on : (more : ℕ → ℕ → Hall → Ran) (f : Option (ℕ × Stamp)) (n lines bytes : ℕ) (m : Hall) → run_on more f (Some n) lines bytes m ≡ ended_with n m
ended_on more None n lines bytes m = refl
ended_on more (Some f) n lines bytes m = refl

less : (a b : ℕ) → a < b → 190 ≤ 20000000 - a → 20000000 - b < 20000000 - a
less a b p q = omega arith

module _ (goal : Fraction) (l b : ℕ) (m : Hall) where
  pub over : (e : ℕ) → Stop goal l b m e → run goal l b m ≡ ended_with e m
  over e x = (runs_end goal l b m).again ∙ ap (λ (o : Option ℕ). run_on (run goal) (next_due goal m) o l b m) x.ends ∙ ended_on (run goal) (next_due goal m) e l b m

  module _ (f : ℕ × Stamp) (x : Next goal l b m f) where
    abbrev one : Step
    one = step f.0 f.1 m

    abbrev noting : List ℕ
    noting = records one.time one.news

    pub goes_on : run goal l b m ≡ and_then one (run goal (l - length one.out.lines) (b - length noting) one.out.hall)
    goes_on = (runs_end goal l b m).again ∙ (λ t. run_on (run goal) (x.due t) (x.goes t) l b m)

    pub lines_most : length one.out.lines ≤ l
    lines_most = up _ 380 l (fire_within f.0 f.1 m x.slot).0.lines x.room
      where
        up : (i j k : ℕ) → i ≤ j → j ≤ k → i ≤ k
        up i j k p q = omega arith

    pub bytes_most : length noting ≤ b
    bytes_most = up _ 11 b (eleven one.time one.news) x.space
      where
        up : (i j k : ℕ) → i ≤ j → j ≤ k → i ≤ k
        up i j k p q = omega arith

    -- fewer numbers are left
    pub fewer : left one.out.hall < left m
    fewer = less m.last one.out.hall.last (fire_within f.0 f.1 m x.slot).1 x.numbers

    -- the firing fits
    pub fire_fits : (n : ℕ) (s : List ℕ) → n + l ≤ length s → Fits (fire f.0 f.1) n m s
    fire_fits n s h = record {
      room = up n (length one.out.lines) l (length s) lines_most h;
      numbers = under m.last one.out.hall.last (fire_within f.0 f.1 m x.slot).0.most x.numbers;
    }
      where
        up : (i j k o : ℕ) → j ≤ k → i + k ≤ o → i + j ≤ o
        up i j k o p q = omega arith

        under : (i j : ℕ) → j ≤ i + 190 → 190 ≤ 20000000 - i → j ≤ 20000000
        under i j p q = omega arith

module _ (goal : Fraction) (m₀ m : Hall) (s₀ s p₀ p : List ℕ) (k n b : ℕ) (g : Going goal m₀ m s₀ s p₀ p k n b) where
  pub going_all : (e r : ℕ) → r ≡ b → Stop goal (length s₀ - n) (length p₀ - b) m e → Went goal m₀ m s₀ s p₀ p e k n r
  going_all e r q x =
      let all = g.whole ∙ ap (prefixed g.told g.noted k) (over goal (length s₀ - n) (length p₀ - b) m e x) in
      let ls = ap (λ (r : Ran). r.lines) all ∙ append-nil g.told in
      let ps = ap (λ (r : Ran). r.page) all ∙ append-nil g.noted in
      record {
        hall = sym (ap (λ (r : Ran). r.hall) all);
        slip = g.slip ∙ written_start g.told s₀ ∙ (λ t. sym ls t ++ drop (sym g.lines t) s₀);
        page = g.page ∙ written_start g.noted p₀ ∙ (λ t. sym ps t ++ drop (sym (q ∙ g.bytes) t) p₀);
        ended = sym (ap (λ (r : Ran). r.ended) all);
        steps = sym (ap (λ (r : Ran). r.steps) all ∙ add-zero k);
        lines = g.lines ∙ sym (ap length ls);
        bytes = q ∙ g.bytes ∙ sym (ap length ps);
      }

  module _ (f : ℕ × Stamp) (x : Next goal (length s₀ - n) (length p₀ - b) m f) where
    abbrev now_told : List ℕ
    now_told = (fire f.0 f.1 m).lines

    abbrev now_noted : List ℕ
    now_noted = records (step f.0 f.1 m).time (step f.0 f.1 m).news

    pub going_more : (m' : Hall) (s' p' : List ℕ) (n' b' : ℕ) → Wrote (fire f.0 f.1) n m m' s s' n' → b' ≡ b + length now_noted → p' ≡ written b now_noted p →
        Going goal m₀ m' s₀ s' p₀ p' (k + 1) n' b'
    going_more m' s' p' n' b' w i j = record {
      told = g.told ++ now_told;
      noted = g.noted ++ now_noted;
      slip = more_written n g.told now_told s₀ s s' g.lines g.room g.slip w.slip;
      page = more_written b g.noted now_noted p₀ p p' g.bytes g.space g.page j;
      lines = more_long n n' g.told now_told g.lines w.count;
      bytes = more_long b b' g.noted now_noted g.bytes i;
      room = within n n' (length s₀) (length now_told) w.count g.room (lines_most goal (length s₀ - n) (length p₀ - b) m f x);
      space = within b b' (length p₀) (length now_noted) i g.space (bytes_most goal (length s₀ - n) (length p₀ - b) m f x);
      tally = count k (left m) (left m₀) (left m') g.tally (subst (λ (h : Hall). left h < left m) (sym w.hall) (fewer goal (length s₀ - n) (length p₀ - b) m f x));
      whole =
          g.whole ∙ ap (prefixed g.told g.noted k) (goes_on goal (length s₀ - n) (length p₀ - b) m f x)
          ∙ stepped g.told g.noted k (step f.0 f.1 m) _
          ∙ ap (prefixed (g.told ++ now_told) (g.noted ++ now_noted) (k + 1)) (same_room goal _ _ _ _ _ _ (short n n' (length s₀) (length now_told) w.count) (short b b' (length p₀) (length now_noted) i) (sym w.hall));
    }
      where
        within : (c d e o : ℕ) → d ≡ c + o → c ≤ e → o ≤ e - c → d ≤ e
        within c d e o p q r = omega arith

        short : (c d e o : ℕ) → d ≡ c + o → e - c - o ≡ e - d
        short c d e o p = omega arith

        count : (c d e o : ℕ) → c + d ≤ e → o < d → c + 1 + o ≤ e
        count c d e o p q = omega arith

-- where 380 lines and 190 numbers are left, a firing fits from the slip's start
pub step_fits : (f : ℕ) (k : Stamp) (m : Hall) (s : List ℕ) → f < 12352 → 380 ≤ length s → 190 ≤ left m → Fits (fire f k) 0 m s
step_fits f k m s h p q = record {
  room = up (length (fire f k m).lines) (length s) (fire_within f k m h).0.lines p;
  numbers = under m.last (fire f k m).hall.last (fire_within f k m h).0.most q;
}
  where
    up : (i j : ℕ) → i ≤ 380 → 380 ≤ j → 0 + i ≤ j
    up i j p q = omega arith

    under : (i j : ℕ) → j ≤ i + 190 → 190 ≤ 20000000 - i → j ≤ 20000000
    under i j p q = omega arith

-- a slip and a page keep their lengths
module _ (goal : Fraction) (i i' j j' n b y : ℕ) (m : Hall) (e : i ≡ i') (h : j ≡ j') (q : y ≡ j - b) where
  pub next_at : (f : ℕ × Stamp) → Next goal (i - n) y m f → Next goal (i' - n) (j' - b) m f
  next_at f x = subst (λ (v : ℕ). Next goal (i' - n) (v - b) m f) h (subst (λ (v : ℕ). Next goal (v - n) (j - b) m f) e (subst (λ (v : ℕ). Next goal (i - n) v m f) q x))

  pub stop_at : (k : ℕ) → Stop goal (i - n) y m k → Stop goal (i' - n) (j' - b) m k
  stop_at k x = subst (λ (v : ℕ). Stop goal (i' - n) (v - b) m k) h (subst (λ (v : ℕ). Stop goal (v - n) (j - b) m k) e (subst (λ (v : ℕ). Stop goal (i - n) v m k) q x))
