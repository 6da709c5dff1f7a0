-- On from a hall at rest, call after call with no change: the steps made so far are one chain, and tell what the answers tell.
use Rattle.std.proofs.Common.{◌≡◌, ℕ, zero, suc, ◌-◌, ◌*◌, ◌<◌, ◌≤◌, Bool, true, false, cond, not, ◌&&◌, ◌||◌, eqb, ltb, List, [], ◌++◌, length, is_some, Some, None, Option, sym, refl, ap, ◌∙◌, subst, inl, inr, append-nil, arith}
use Rattle.std.proofs.lemmas.Bool.{and_parts, or_parts, eqb-true, eqb-false, ltb-false, not-false, both_ways}
use Rattle.rules.specs.Basics.{the}
use Rattle.rules.specs.Fractions.{Fraction, NotAfter, Usual, is_same, least, no_time}
use Rattle.rules.specs.Stamps.{Stamp, Earlier, at, is_earlier}
use Rattle.rules.specs.Pages.{News, Report, page_of, page_read}
use Rattle.rules.proofs.Order.{not_after_trans}
use Rattle.rules.proofs.Made.{least_terms, least_inside}
use Rattle.model.specs.Halls.{Clock, quiet, due, Hall, State, left, next_due}
use Rattle.model.specs.Calls.{Call, changing, setting, stepping, running, resting, touching, listing, asking, Answer}
use Rattle.model.specs.Refusals.{same_clock, refusal}
use Rattle.model.specs.Runs.{step, records, Ran, and_then, ending, run_on, run_in, run}
use Rattle.model.specs.Performing.{stepping_to, carried_out, unless, perform}
use Rattle.model.specs.Histories.{change_of, if_accepted, stepped_with, step_report, page_reports}
use Rattle.pages.proofs.Reading.{back}
use Rattle.queues.proofs.Firsts.{not_earlier_test, some_none}
use Rattle.telling.proofs.Skies.{Good}
use Rattle.telling.proofs.Steps.{Goes, stop, more, told_by, next_hall, goes_join, goes_later, goes_gone, KeptPaths, kept_on, AllPlain, plain_fit, due_first, fires_due}

-- ---- small facts
-- no row fits: this one does not, nor any after it
pub fit_none : (b : Bool) (n : ℕ) (o : Option ℕ) → cond b (Some n) o ≡ None → (b ≡ false) × (o ≡ None)
fit_none true n o e = some_none (Some n) n e refl
fit_none false n o e = (refl, e)

same_out : (s t : Fraction) → is_same s t ≡ true → s ≡ t
same_out s t e =
    let z = and_parts (eqb s.num t.num) (eqb s.den t.den) e in
    λ i. record { num = eqb-true s.num t.num z.0 i; den = eqb-true s.den t.den z.1 i }

-- a clock that is the hall's
pub mine_quiet : (k : Clock) (t : Fraction) → not (same_clock (quiet t) k) ≡ false → k ≡ quiet t
mine_quiet (quiet u) t e = ap quiet (sym (same_out t u (not-false (is_same t u) e)))
mine_quiet (due r g) t e = absurd (both_ways true e refl)

pub mine_due : (k : Clock) (t g : Fraction) → not (same_clock (due t g) k) ≡ false → k ≡ due t g
mine_due (quiet u) t g e = absurd (both_ways true e refl)
mine_due (due r h) t g e =
    let z = and_parts (is_same t r) (is_same g h) (not-false (is_same t r && is_same g h) e) in
    λ i. due (sym (same_out t r z.0) i) (sym (same_out g h z.1) i)

pub at_not_earlier : (s t : Fraction) → NotAfter s t → is_earlier (at t) (at s) ≡ false
at_not_earlier s t h = not_earlier_test (at t) (at s) by
  where
    by : Earlier (at t) (at s) → ⊥
    by (inl x) = omega arith
    by (inr x) = omega (arith, x.1)

-- a goal that is not refused
pub record Goal (t : Fraction) (n d : ℕ) : Type 0 where
  pub usual : Usual (least n d)
  pub later : NotAfter t (least n d)

goal_right : (t : Fraction) (n d : ℕ) → no_time n d ≡ false → ltb (n * t.den) (t.num * d) ≡ false → Goal t n d
goal_right t n d e f = go (parts e)
  where
    parts : no_time n d ≡ false → (0 < d) × (d ≤ 16000) × (n ≤ 50000 * d)
    parts e =
        let z = or_parts (eqb d 0 || ltb 16000 d) (ltb (50000 * d) n) e in
        let y = or_parts (eqb d 0) (ltb 16000 d) z.0 in
        let x = eqb-false d 0 y.0 in
        (omega (arith, x), ltb-false 16000 d y.1, ltb-false (50000 * d) n z.1)

    go : (0 < d) × (d ≤ 16000) × (n ≤ 50000 * d) → Goal t n d
    go z =
        let l = least_terms n d z.0 in
        record {
          usual = record { proper = l.right.proper; small = omega (arith, l.small, z.1); inside = least_inside n d 50000 (least n d) z.0 l.right z.2; coprime = l.right.coprime };
          later = not_after_trans t (record { num = n; den = d }) (least n d) z.0 (ltb-false (n * t.den) (t.num * d) f) (let s = l.right.same in omega (arith, s));
        }

-- ---- what an answer tells
abbrev pub answer_reports : Answer → List Report
answer_reports a = step_report a.result ++ page_reports a.page

pub page_back : (page : List ℕ) (rs : List Report) → page ≡ page_of rs → AllPlain rs → page_reports page ≡ rs
page_back page rs e p = ap (λ (o : Option (List Report)). the [] o) (ap page_read e ∙ back rs (plain_fit rs p))

-- a record of what a step told, before the others
records_page : (t : Fraction) (w : Option News) (rs : List Report) → records t w ++ page_of rs ≡ page_of (stepped_with t w ++ rs)
records_page t None rs = refl
records_page t (Some w) rs = refl

module _ (w : ℕ) (w8 : w ≤ 8) where
  -- ---- a run is a chain of steps, and its page tells them
  pub record RanOn (g : Fraction) (r : Ran) (m : Hall) : Type 0 where
    pub told : List Report
    pub goes : Goes g r.hall m told
    pub page : r.page ≡ page_of told

  ran_more : (g : Fraction) (m : Hall) (f : ℕ × Stamp) → next_due g m ≡ Some f → (r : Ran) → RanOn g r (next_hall f m) → RanOn g (and_then (step f.0 f.1 m) r) m
  ran_more g m f e r i = record {
    told = told_by f m ++ i.told;
    goes = more f e i.goes;
    page = ap (λ (p : List ℕ). records (step f.0 f.1 m).time (step f.0 f.1 m).news ++ p) i.page ∙ records_page (step f.0 f.1 m).time (step f.0 f.1 m).news i.told;
  }

  pub run_goes : (k : ℕ) (g : Fraction) (lines bytes : ℕ) (m : Hall) → Good m → KeptPaths w w8 m → RanOn g (run_in k g lines bytes m) m
  run_goes zero g lines bytes m gm kept = record { told = []; goes = stop; page = refl }
  run_goes (suc k) g lines bytes m gm kept = by (λ l b h gh kh. run_goes k g l b h gh kh) (next_due g m) refl (ending (next_due g m) lines bytes m)
    where
      by : ((l b : ℕ) (h : Hall) → Good h → KeptPaths w w8 h → RanOn g (run_in k g l b h) h) → (f : Option (ℕ × Stamp)) → next_due g m ≡ f → (o : Option ℕ) → RanOn g (run_on (run_in k g) f o lines bytes m) m
      by go None e None = record { told = []; goes = stop; page = refl }
      by go None e (Some n) = record { told = []; goes = stop; page = refl }
      by go (Some f) e (Some n) = record { told = []; goes = stop; page = refl }
      by go (Some f) e None =
          let z = fires_due w w8 m gm kept f.0 f.1 (due_first m gm g f e).0.here in
          ran_more g m f e (run_in k g (lines - length (step f.0 f.1 m).out.lines) (bytes - length (records (step f.0 f.1 m).time (step f.0 f.1 m).news)) (next_hall f m))
          (go (lines - length (step f.0 f.1 m).out.lines) (bytes - length (records (step f.0 f.1 m).time (step f.0 f.1 m).news)) (next_hall f m) z.good (kept_on w w8 m (next_hall f m) z.same_book kept))

  -- ---- the way on from the hall m₀ at s
  module _ (s : Fraction) (m₀ : Hall) (g₀ : Good m₀) (kept₀ : KeptPaths w w8 m₀) where
    abbrev pub Way : List Report → Clock → Hall → Type 0
    Way rs (quiet u) m = Usual u × NotAfter s u × Goes u m m₀ rs × (next_due u m ≡ None)
    Way rs (due r g) m = Usual g × NotAfter s g × Goes g m m₀ rs

    way_as : (rs qs : List Report) (k : Clock) (m : Hall) → rs ≡ qs → Way rs k m → Way qs k m
    way_as rs qs k m e v = subst (λ (ls : List Report). Way ls k m) e v

    pub way_at : (rs : List Report) (k j : Clock) (m : Hall) → k ≡ j → Way rs k m → Way rs j m
    way_at rs k j m e v = subst (λ (x : Clock). Way rs x m) e v

    set_on : (t : Fraction) (n d : ℕ) (z : State) (rs : List Report) → refusal (setting t n d) z ≡ None → Way rs z.clock z.hall → Way rs (due t (least n d)) z.hall
    set_on t n d z rs e v =
        let a = fit_none _ _ _ e in
        let b = fit_none _ _ _ a.1 in
        let c = fit_none _ _ _ b.1 in
        let q = goal_right t n d b.0 c.0 in
        let y = way_at rs z.clock (quiet t) z.hall (mine_quiet z.clock t a.0) v in (
          q.usual,
          not_after_trans s t (least n d) y.0.proper y.1 q.later,
          goes_later w w8 t (least n d) y.0.proper q.usual.proper (at_not_earlier t (least n d) q.later) z.hall m₀ rs g₀ kept₀ y.2,
        )

    step_way : (t g : Fraction) (z : State) (rs : List Report) → z.clock ≡ due t g → (f : Option (ℕ × Stamp)) → next_due g z.hall ≡ f → is_some f ≡ true → Way rs z.clock z.hall →
        Way (rs ++ answer_reports (stepping_to f z).answer) (stepping_to f z).state.clock (stepping_to f z).state.hall
    step_way t g z rs c None e i v = absurd (both_ways false refl i)
    step_way t g z rs c (Some f) e i v =
        let y = way_at rs z.clock (due t g) z.hall c v in
        way_at (rs ++ (told_by f z.hall ++ [])) (due t g) z.clock (next_hall f z.hall) (sym c)
        (y.0, y.1, goes_join g (next_hall f z.hall) z.hall m₀ rs (told_by f z.hall ++ []) y.2 (more f e stop))

    run_way : (t g : Fraction) (slip page : ℕ) (z : State) (rs : List Report) → z.clock ≡ due t g → Way rs z.clock z.hall → Way (rs ++ page_reports (run g slip page z.hall).page) z.clock (run g slip page z.hall).hall
    run_way t g slip page z rs c v =
        let y = way_at rs z.clock (due t g) z.hall c v in
        let q = goes_gone w w8 g z.hall m₀ rs g₀ kept₀ y.2 in
        let kz = kept_on w w8 m₀ z.hall q.same_book kept₀ in
        let r = run_goes (suc (left z.hall)) g slip page z.hall q.good kz in
        let p = goes_gone w w8 g (run g slip page z.hall).hall z.hall r.told q.good kz r.goes in
        way_as (rs ++ r.told) (rs ++ page_reports (run g slip page z.hall).page) z.clock (run g slip page z.hall).hall
        (ap (λ (ls : List Report). rs ++ ls) (sym (page_back (run g slip page z.hall).page r.told r.page p.plain)))
        (way_at (rs ++ r.told) (due t g) z.clock (run g slip page z.hall).hall (sym c)
        (y.0, y.1, goes_join g (run g slip page z.hall).hall z.hall m₀ rs r.told y.2 r.goes))

    none_due : {A : Type 0} (o : Option A) → is_some o ≡ false → o ≡ None
    none_due None e = refl
    none_due (Some x) e = absurd (both_ways true e refl)

    rest_way : (t g : Fraction) (z : State) (rs : List Report) → refusal (resting t g) z ≡ None → Way rs z.clock z.hall → Way rs (quiet g) z.hall
    rest_way t g z rs e v =
        let a = fit_none _ _ _ e in
        let b = fit_none _ _ _ a.1 in
        let y = way_at rs z.clock (due t g) z.hall (mine_due z.clock t g a.0) v in
        (y.0, y.1, y.2, none_due (next_due g z.hall) b.0)

    same_way : (z : State) (rs : List Report) → Way rs z.clock z.hall → Way (rs ++ []) z.clock z.hall
    same_way z rs v = way_as rs (rs ++ []) z.clock z.hall (sym (append-nil rs)) v

    pub way_carried : (call : Call) (z : State) (rs : List Report) → refusal call z ≡ None → if_accepted (carried_out call z).answer.result (change_of call) ≡ [] → Way rs z.clock z.hall →
        Way (rs ++ answer_reports (carried_out call z).answer) (carried_out call z).state.clock (carried_out call z).state.hall
    way_carried (changing t x slip) z rs e none v = let y : ◌≡◌ {A = ℕ} 0 1 = cc in absurd (omega arith)
    way_carried (setting t n d) z rs e none v = way_as rs (rs ++ []) (due t (least n d)) z.hall (sym (append-nil rs)) (set_on t n d z rs e v)
    way_carried (stepping t g slip) z rs e none v =
        let a = fit_none _ _ _ e in
        let b = fit_none _ _ _ a.1 in
        step_way t g z rs (mine_due z.clock t g a.0) (next_due g z.hall) refl (not-false (is_some (next_due g z.hall)) b.0) v
    way_carried (running t g slip page) z rs e none v = let a = fit_none _ _ _ e in run_way t g slip page z rs (mine_due z.clock t g a.0) v
    way_carried (resting t g) z rs e none v = way_as rs (rs ++ []) (quiet g) z.hall (sym (append-nil rs)) (rest_way t g z rs e v)
    way_carried (touching t c d) z rs e none v = same_way z rs v
    way_carried (listing t room) z rs e none v = same_way z rs v
    way_carried (asking i) z rs e none v = same_way z rs v

    pub way_call : (call : Call) (z : State) (rs : List Report) → if_accepted (perform call z).answer.result (change_of call) ≡ [] → Way rs z.clock z.hall →
        Way (rs ++ answer_reports (perform call z).answer) (perform call z).state.clock (perform call z).state.hall
    way_call call z rs none v = by (refusal call z) refl none
      where
        by : (o : Option ℕ) → refusal call z ≡ o → if_accepted (unless o call z).answer.result (change_of call) ≡ [] → Way (rs ++ answer_reports (unless o call z).answer) (unless o call z).state.clock (unless o call z).state.hall
        by None e none = way_carried call z rs e none v
        by (Some n) e none = same_way z rs v
