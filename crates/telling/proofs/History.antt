-- After every list of calls the hall is on its way from one at rest, with no change since.
use Rattle.std.proofs.Common.{◌≡◌, ℕ, ◌≤◌, true, false, List, [], ◌∷◌, ◌++◌, Some, None, Option, sym, refl, ap, ◌∙◌, subst, inl, inr, arith}
use Rattle.std.proofs.lemmas.Bool.{leb-false, both_ways}
use Rattle.rules.specs.Fractions.{Fraction, Usual, tick}
use Rattle.rules.specs.Stamps.{Stamp, at, is_earlier}
use Rattle.rules.specs.Paths.{Kept}
use Rattle.rules.specs.Books.{Book, path, BookChange, changed, changed_by}
use Rattle.rules.specs.Pages.{Report}
use Rattle.model.specs.Halls.{Clock, quiet, due, Hall, State, empty_hall, opened, in_hall, next_due}
use Rattle.model.specs.Moves.{enter, leave, change}
use Rattle.model.specs.Calls.{Change, entering, leaving, booking, Call, changing, setting, stepping, running, resting, touching, listing, asking, Result, refused, accepted}
use Rattle.model.specs.Refusals.{refusal}
use Rattle.model.specs.Performing.{make, carried_out, unless, perform}
use Rattle.model.specs.Histories.{after, if_accepted}
use Rattle.queues.proofs.Firsts.{some_none}
use Rattle.events.specs.Machine.{Sky, Quiet, Rested}
use Rattle.events.specs.Reports.{Reported, ReportsHold}
use Rattle.events.specs.Changes.{ChangesRest}
use Rattle.telling.proofs.Moved.{enter_amid, leave_amid}
use Rattle.certified.specs.Histories.{sky_of, core_of}
use Rattle.telling.proofs.Skies.{two, usual_inside, tick_usual, Live, Good}
use Rattle.telling.proofs.Firing.{in_flight}
use Rattle.telling.proofs.Steps.{stop, Gone, goes_gone, KeptPaths, kept_on, due_first, quiet_now}
use Rattle.telling.proofs.Resting.{Resting, PathsStay, enter_rests, leave_rests, change_book, change_rests}
use Rattle.telling.proofs.Ways.{fit_none, mine_quiet, Way, way_at, way_carried}

-- where the machine is quiet the queue has nothing due
pub quiet_none : (m : Hall) → Good m → (t : Fraction) → Quiet (sky_of m) (core_of m) t → next_due t m ≡ None
quiet_none m g t q = by (next_due t m) refl
  where
    by : (o : Option (ℕ × Stamp)) → next_due t m ≡ o → next_due t m ≡ None
    by None e = e
    by (Some f) e = absurd (live (g.live f.0 f.1 (due_first m g t f e).0.here))
      where
        live : Live (in_hall m) f.0 → ⊥
        live (inl w) = both_ways (is_earlier (at t) f.1) (due_first m g t f e).1
            (q.bits (two w.1 w.2) (record { first = in_flight m w.1 w.4; second = in_flight m w.2 w.5; order = w.3 }) w.0 f.1 (sym (ap m.queue w.6) ∙ (due_first m g t f e).0.here))
        live (inr w) = both_ways (is_earlier (at t) f.1) (due_first m g t f e).1
            (q.legs w.0 (in_flight m w.0 w.1) f.1 (sym (ap m.queue w.2) ∙ (due_first m g t f e).0.here))

pub none_left : {A : Type 0} (xs ys : List A) → xs ++ ys ≡ [] → (xs ≡ []) × (ys ≡ [])
none_left [] ys e = (refl, e)
none_left (x ∷ xs) ys e = let z : ◌≡◌ {A = ℕ} 0 1 = cc in absurd (omega arith)

none_given : {A : Type 0} (r : Result) → if_accepted {A = A} r [] ≡ []
none_given (refused n) = refl
none_given (accepted y) = refl

module _ (w : ℕ) (w8 : w ≤ 8) where
  -- the chain of a way
  way_goes : (s : Fraction) (m₀ : Hall) (g₀ : Good m₀) (k₀ : KeptPaths w w8 m₀) (rs : List Report) (k : Clock) (m : Hall) → Way w w8 s m₀ g₀ k₀ rs k m → (t : Fraction) × Gone t m m₀ rs
  way_goes s m₀ g₀ k₀ rs (quiet u) m v = (u, goes_gone w w8 u m m₀ rs g₀ k₀ v.2)
  way_goes s m₀ g₀ k₀ rs (due r g) m v = (g, goes_gone w w8 g m m₀ rs g₀ k₀ v.2)

  module _ (hold : ReportsHold) where
    -- at the end of a way to a quiet clock: what was told, and rest again
    pub way_ends : (s : Fraction) → Usual s → (m₀ : Hall) (r : Resting w w8 s m₀) (rs : List Report) (u : Fraction) (m : Hall) → Way w w8 s m₀ r.good r.kept rs (quiet u) m →
        Reported (sky_of m₀) s u rs × Resting w w8 u m
    way_ends s us m₀ r rs u m v =
        let q = goes_gone w w8 u m m₀ rs r.good r.kept v.2 in
        let z = hold w (sky_of m₀) r.kept s u us.proper v.0.proper v.1 (usual_inside u v.0) (core_of m₀) (core_of m) rs r.rested q.runs
        (subst (λ (y : Sky). Quiet y (core_of m) u) q.same_sky (quiet_now m q.good u v.0.proper v.3)) in (
          z.0,
          record {
            good = q.good;
            kept = kept_on w w8 m₀ m q.same_book r.kept;
            rested = subst (λ (y : Sky). Rested y u (core_of m)) (sym q.same_sky) z.1;
          },
        )

    -- THE INVARIANT: the book is lawful at the scale w, and the hall is on its way from one at rest
    pub record Inv (z : State) : Type 0 where
      pub lawful : (xs : List BookChange) (c : ℕ) → Kept w (path (changed_by xs z.hall.book) c)
      pub start : Fraction
      pub usual : Usual start
      pub from : Hall
      pub resting : Resting w w8 start from
      pub told : List Report
      pub way : Way w w8 start from resting.good resting.kept told z.clock z.hall

    pub inv_gone : (z : State) (i : Inv z) → (t : Fraction) × Gone t z.hall i.from i.told
    inv_gone z i = way_goes i.start i.from i.resting.good i.resting.kept i.told z.clock z.hall i.way

    -- a lawful book, by another name
    lawful_as : (b e : Book) → b ≡ e → ((xs : List BookChange) (c : ℕ) → Kept w (path (changed_by xs b) c)) → (xs : List BookChange) (c : ℕ) → Kept w (path (changed_by xs e) c)
    lawful_as b e p l xs c = subst (λ (x : Book). Kept w (path (changed_by xs x) c)) p (l xs c)

    inv_on : (z z' : State) (i : Inv z) (rs : List Report) → Way w w8 i.start i.from i.resting.good i.resting.kept rs z'.clock z'.hall → Inv z'
    inv_on z z' i rs v =
        let p = (inv_gone z i).1 in
        let q = (way_goes i.start i.from i.resting.good i.resting.kept rs z'.clock z'.hall v).1 in
        record {
          lawful = lawful_as z.hall.book z'.hall.book (p.same_book ∙ sym q.same_book) i.lawful;
          start = i.start;
          usual = i.usual;
          from = i.from;
          resting = i.resting;
          told = rs;
          way = v;
        }

    -- at rest the way begins anew
    pub way_begins : (t : Fraction) → Usual t → (m : Hall) (r : Resting w w8 t m) → Way w w8 t m r.good r.kept [] (quiet t) m
    way_begins t ut m r = (ut, omega arith, stop, quiet_none m r.good t r.rested.quiet)

    inv_anew : (b : Book) → ((xs : List BookChange) (c : ℕ) → Kept w (path (changed_by xs b) c)) → (k : Clock) (m : Hall) (t : Fraction) → m.book ≡ b → Usual t → Resting w w8 t m → k ≡ quiet t → Inv (record { hall = m; clock = k })
    inv_anew b l k m t e ut r c = record {
      lawful = lawful_as b m.book (sym e) l;
      start = t;
      usual = ut;
      from = m;
      resting = r;
      told = [];
      way = way_at w w8 t m r.good r.kept [] (quiet t) k m (sym c) (way_begins t ut m r);
    }

    -- at a quiet clock the hall rests
    pub inv_rests : (z : State) (i : Inv z) (t : Fraction) → z.clock ≡ quiet t → Usual t × Resting w w8 t z.hall
    inv_rests z i t c =
        let v = way_at w w8 i.start i.from i.resting.good i.resting.kept i.told z.clock (quiet t) z.hall c i.way in
        (v.0, (way_ends i.start i.usual i.from i.resting i.told t z.hall v).1)

    module _ (rest : ChangesRest) (stay : PathsStay) where
      make_inv : (z : State) (i : Inv z) (t : Fraction) (slip : ℕ) (x : Change) → refusal (changing t x slip) z ≡ None → Inv (record { hall = (make x (at t) z.hall).hall; clock = z.clock })
      make_inv z i t slip (entering c x) e =
          let a = fit_none _ _ _ e in
          let q = fit_none _ _ _ a.1 in
          let k = mine_quiet z.clock t a.0 in
          let r = inv_rests z i t k in
          inv_anew z.hall.book i.lawful z.clock (enter c x (at t) z.hall).hall t (enter_amid c x (at t) z.hall).0 r.0 (enter_rests rest w w8 t r.0 z.hall c x (leb-false 64 c q.0) r.1) k
      make_inv z i t slip (leaving c) e =
          let a = fit_none _ _ _ e in
          let q = fit_none _ _ _ a.1 in
          let k = mine_quiet z.clock t a.0 in
          let r = inv_rests z i t k in
          inv_anew z.hall.book i.lawful z.clock (leave c z.hall).hall t (leave_amid c z.hall).0 r.0 (leave_rests rest w w8 t r.0 z.hall c (leb-false 64 c q.0) r.1) k
      make_inv z i t slip (booking y) e =
          let a = fit_none _ _ _ e in
          let k = mine_quiet z.clock t a.0 in
          let r = inv_rests z i t k in
          inv_anew (changed y z.hall.book) (λ xs c. i.lawful (y ∷ xs) c) z.clock (change y (at t) z.hall).hall t (change_book y (at t) z.hall) r.0
          (change_rests rest stay w w8 t r.0 y z.hall (λ c. i.lawful (y ∷ []) c) r.1) k

      carried_inv : (z : State) (i : Inv z) (call : Call) → refusal call z ≡ None → Inv (carried_out call z).state
      carried_inv z i (changing t x slip) e = make_inv z i t slip x e
      carried_inv z i (setting t n d) e = inv_on z (carried_out (setting t n d) z).state i _ (way_carried w w8 i.start i.from i.resting.good i.resting.kept (setting t n d) z i.told e refl i.way)
      carried_inv z i (stepping t g slip) e = inv_on z (carried_out (stepping t g slip) z).state i _ (way_carried w w8 i.start i.from i.resting.good i.resting.kept (stepping t g slip) z i.told e (none_given (carried_out (stepping t g slip) z).answer.result) i.way)
      carried_inv z i (running t g slip page) e = inv_on z (carried_out (running t g slip page) z).state i _ (way_carried w w8 i.start i.from i.resting.good i.resting.kept (running t g slip page) z i.told e refl i.way)
      carried_inv z i (resting t g) e = inv_on z (carried_out (resting t g) z).state i _ (way_carried w w8 i.start i.from i.resting.good i.resting.kept (resting t g) z i.told e refl i.way)
      carried_inv z i (touching t c d) e = i
      carried_inv z i (listing t room) e = i
      carried_inv z i (asking s) e = i

      pub inv_call : (z : State) (i : Inv z) (call : Call) → Inv (perform call z).state
      inv_call z i call = by (refusal call z) refl
        where
          by : (o : Option ℕ) → refusal call z ≡ o → Inv (unless o call z).state
          by None e = carried_inv z i call e
          by (Some n) e = i

      pub inv_calls : (calls : List Call) (z : State) → Inv z → Inv (after calls z)
      inv_calls [] z i = i
      inv_calls (c ∷ cs) z i = inv_calls cs (perform c z).state (inv_call z i c)

    -- ---- the opening
    pub inv_opened : (b : Book) → ((xs : List BookChange) (c : ℕ) → Kept w (path (changed_by xs b) c)) → Inv (opened b)
    inv_opened b l = inv_anew b l (quiet (tick 0)) (empty_hall b) (tick 0) refl (tick_usual 0 (omega arith)) resting refl
      where
        nobody_in : {A : Type 0} → false ≡ true → A
        nobody_in e = absurd (both_ways false refl e)

        resting : Resting w w8 (tick 0) (empty_hall b)
        resting = record {
          good = record { low = λ c f. nobody_in f; live = λ s k e. some_none None k refl e; neat = λ s k e. some_none None k refl e; slow = λ c a. omega arith };
          kept = λ c. l [] c;
          rested = record {
            sound = record { legs = λ c f. nobody_in f; bits = λ i p a. nobody_in p.first };
            quiet = record { bits = λ i p a k e. nobody_in p.first; legs = λ c f k e. nobody_in f };
          };
        }
