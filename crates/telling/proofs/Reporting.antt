-- Reports: between two quiet clocks, with no change, what is told is what happens.
use Rattle.std.proofs.Common.{◌≡◌, ℕ, suc, ◌≤◌, ◌⊎◌, List, [], ◌∷◌, ◌++◌, Some, None, Option, sym, refl, ap, ◌∙◌, subst, inl, inr, append_assoc, append-nil}
use mathlib.Core.List.Memᴰ
use Rattle.rules.specs.Basics.{◌∈◌}
use Rattle.rules.specs.Fractions.{Fraction, Usual}
use Rattle.rules.specs.Stamps.{Stamp}
use Rattle.rules.specs.Books.{Book, Lawful}
use Rattle.rules.specs.Pages.{News, met, parted, Report, page_of, page_read}
use Rattle.model.specs.Halls.{quiet, Hall, State, opened, left, next_due}
use Rattle.model.specs.Calls.{Call, changing, setting, stepping, running, resting, touching, listing, asking, Answer}
use Rattle.model.specs.Refusals.{refusal}
use Rattle.model.specs.Runs.{run}
use Rattle.model.specs.Performing.{stepping_to, carried_out, unless, perform}
use Rattle.model.specs.Histories.{Event, events, after, change_of, if_accepted, changes, step_report, page_reports, reports}
use Rattle.model.specs.Statement.{further, Happens, Onward, Reports}
use Rattle.pages.proofs.Reading.{back}
use Rattle.events.specs.Machine.{Sky}
use Rattle.events.specs.Reports.{Reported, ReportsHold, BitsTell}
use Rattle.events.specs.Reports as machine
use Rattle.events.specs.Changes.{ChangesRest}
use Rattle.accounts.proofs.Agrees.{histories_agree}
use Rattle.telling.proofs.Skies.{Good}
use Rattle.telling.proofs.Steps.{goes_one, goes_gone, KeptPaths, kept_on, AllPlain, plain_fit, plain_in}
use Rattle.telling.proofs.Resting.{Resting, PathsStay}
use Rattle.telling.proofs.Ways.{run_goes, answer_reports, Way, way_at, way_call}
use Rattle.telling.proofs.History.{none_left, Inv, inv_gone, inv_call, inv_opened, way_ends, way_begins}
use Rattle.telling.proofs.Touches.{now, told_sky, sky_is, at_rest}

pub after_join : (calls more : List Call) (z : State) → after (calls ++ more) z ≡ after more (after calls z)
after_join [] more z = refl
after_join (c ∷ cs) more z = after_join cs more (perform c z).state

join_reports : (rs xs ys zs : List Report) → (rs ++ (xs ++ ys)) ++ zs ≡ rs ++ (xs ++ (ys ++ zs))
join_reports rs xs ys zs = append_assoc rs (xs ++ ys) zs ∙ ap (λ (ls : List Report). rs ++ ls) (append_assoc xs ys zs)

module _ (w : ℕ) (w8 : w ≤ 8) (s : Fraction) (m₀ : Hall) (g₀ : Good m₀) (k₀ : KeptPaths w w8 m₀) where
  way_calls : (calls : List Call) (z : State) (rs : List Report) → changes (events calls z) ≡ [] → Way w w8 s m₀ g₀ k₀ rs z.clock z.hall →
      Way w w8 s m₀ g₀ k₀ (rs ++ reports (events calls z)) (after calls z).clock (after calls z).hall
  way_calls [] z rs none v = subst (λ (ls : List Report). Way w w8 s m₀ g₀ k₀ ls z.clock z.hall) (sym (append-nil rs)) v
  way_calls (c ∷ cs) z rs none v =
      let n = none_left (if_accepted (perform c z).answer.result (change_of c)) (changes (events cs (perform c z).state)) none in
      let a = (perform c z).answer in
      let e = after cs (perform c z).state in
      subst (λ (ls : List Report). Way w w8 s m₀ g₀ k₀ ls e.clock e.hall) (join_reports rs (step_report a.result) (page_reports a.page) (reports (events cs (perform c z).state)))
      (way_calls cs (perform c z).state (rs ++ answer_reports a) n.1 (way_call w w8 s m₀ g₀ k₀ c z rs n.0 v))

-- ---- pages
abbrev pub PageIs : List ℕ → Type 0
PageIs page = (rs : List Report) × (page_read page ≡ Some rs) × (page ≡ page_of rs)

module _ (w : ℕ) (w8 : w ≤ 8) (hold : ReportsHold) (rest : ChangesRest) (stay : PathsStay) where
  run_page : (z : State) (i : Inv w w8 hold z) (g : Fraction) (slip page : ℕ) → PageIs (run g slip page z.hall).page
  run_page z i g slip page =
      let q = (inv_gone w w8 hold z i).1 in
      let kz = kept_on w w8 i.from z.hall q.same_book i.resting.kept in
      let r = run_goes w w8 (suc (left z.hall)) g slip page z.hall q.good kz in
      let p = goes_gone w w8 g (run g slip page z.hall).hall z.hall r.told q.good kz r.goes in
      (r.told, ap page_read r.page ∙ back r.told (plain_fit r.told p.plain), r.page)

  page_carried : (z : State) → Inv w w8 hold z → (call : Call) → PageIs (carried_out call z).answer.page
  page_carried z i (changing t x slip) = ([], refl, refl)
  page_carried z i (setting t n d) = ([], refl, refl)
  page_carried z i (stepping t g slip) = by (next_due g z.hall)
    where
      by : (o : Option (ℕ × Stamp)) → PageIs (stepping_to o z).answer.page
      by None = ([], refl, refl)
      by (Some f) = ([], refl, refl)
  page_carried z i (running t g slip page) = run_page z i g slip page
  page_carried z i (resting t g) = ([], refl, refl)
  page_carried z i (touching t c d) = ([], refl, refl)
  page_carried z i (listing t room) = ([], refl, refl)
  page_carried z i (asking s) = ([], refl, refl)

  page_call : (z : State) → Inv w w8 hold z → (call : Call) → PageIs (perform call z).answer.page
  page_call z i call = by (refusal call z)
    where
      by : (o : Option ℕ) → PageIs (unless o call z).answer.page
      by None = page_carried z i call
      by (Some n) = ([], refl, refl)

  page_calls : (calls : List Call) (z : State) → Inv w w8 hold z → (e : Event) → e ∈ events calls z → PageIs e.answer.page
  page_calls [] z i e p = absurd (Memᴰ.not-nil p)
  page_calls (c ∷ cs) z i e p = by (Memᴰ.cases_cons p) (λ q. page_calls cs (perform c z).state (inv_call w w8 hold rest stay z i c) e q)
    where
      by : (e ≡ record { call = c; answer = (perform c z).answer }) ⊎ (e ∈ events cs (perform c z).state) → (e ∈ events cs (perform c z).state → PageIs e.answer.page) → PageIs e.answer.page
      by (inl q) go = subst (λ (a : Answer). PageIs a.page) (sym (ap (λ (e : Event). e.answer) q)) (page_call z i c)
      by (inr q) go = go q

module _ (hold : ReportsHold) (bits : BitsTell) (rest : ChangesRest) (stay : PathsStay) (b : Book) (lawful : Lawful b) (small : b.scale ≤ 8) (calls : List Call) where
  abbrev here : State
  here = now hold bits rest stay b lawful small calls

  abbrev told : Sky
  told = told_sky hold bits rest stay b lawful small calls

  happens : (s t : Fraction) (w : News) (u : Fraction) → machine.Happens told s t w u → Happens b calls s t w u
  happens s t (met c d) u h = h
  happens s t (parted c d) u h = h

  unhappens : (s t : Fraction) (w : News) (u : Fraction) → Happens b calls s t w u → machine.Happens told s t w u
  unhappens s t (met c d) u h = h
  unhappens s t (parted c d) u h = h

  module _ (more : List Call) (s t : Fraction) (on : Onward b calls more s t) where
    abbrev rest_now : Usual s × Resting b.scale small s here.hall
    rest_now = at_rest hold bits rest stay b lawful small calls s on.starts

    abbrev end : Hall
    end = (after more here).hall

    -- the chain of steps from here to there
    pub way_on : Way b.scale small s here.hall rest_now.1.good rest_now.1.kept (reports (further b calls more)) (quiet t) end
    way_on =
        let r = rest_now in
        let v = way_begins b.scale small hold s r.0 here.hall r.1 in
        let c : here.clock ≡ quiet s = sym (histories_agree b calls).clock ∙ on.starts in
        let u = way_calls b.scale small s here.hall r.1.good r.1.kept more here [] on.unchanged (way_at b.scale small s here.hall r.1.good r.1.kept [] (quiet s) here.clock here.hall (sym c) v) in
        way_at b.scale small s here.hall r.1.good r.1.kept (reports (further b calls more)) (after more here).clock (quiet t) end
        (ap (λ (z : State). z.clock) (sym (after_join calls more (opened b))) ∙ sym (histories_agree b (calls ++ more)).clock ∙ on.stops) u

    pub reported : Reported told s t (reports (further b calls more))
    reported = subst (λ (y : Sky). Reported y s t (reports (further b calls more))) (sky_is hold bits rest stay b lawful small calls)
        (way_ends b.scale small hold s rest_now.0 here.hall rest_now.1 (reports (further b calls more)) t end way_on).0

    pub plain : AllPlain (reports (further b calls more))
    plain = (goes_gone b.scale small t end here.hall (reports (further b calls more)) rest_now.1.good rest_now.1.kept way_on.2).plain

  pub reporting_holds : Reports b calls
  reporting_holds = record {
    true_told = λ more s t on r e. (plain_in (reports (further b calls more)) r (plain more s t on) e, happens s t r.news r.time ((reported more s t on).true_told r e));
    all_told = λ more s t on w u p h. (reported more s t on).all_told w u p (unhappens s t w u h);
    ordered = λ more s t on. (reported more s t on).ordered;
    same = λ more other s t on an. goes_one t (end more s t on) (end other s t an) here.hall (reports (further b calls more)) (reports (further b calls other)) (way_on more s t on).3 (way_on other s t an).3 (way_on more s t on).2 (way_on other s t an).2;
    pages = page_calls b.scale small hold rest stay calls (opened b) (inv_opened b.scale small hold b lawful.paths);
  }
