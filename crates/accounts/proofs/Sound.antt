-- What every call keeps: the ledger is true, exactly the slots of the entered pairs and craft are taken,
-- no craft is out of range, and the numbers stay in their limit.
use Rattle.std.proofs.Common.{◌≡◌, ℕ, zero, suc, ◌-◌, ◌<◌, ◌≤◌, Bool, true, false, cond, not, ◌&&◌, ◌||◌, ltb, List, [], ◌∷◌, ◌++◌, is_some, Some, None, Option, sym, refl, ap, ◌∙◌, subst, append_assoc, append-nil, arith, ltb-false, ltb-true, le-ltb, lt-ltb, leb-false}
use mathlib.Core.List.Memᴰ
use borrow.Author.Tests.{not-false, both_ways}
use Rattle.rules.specs.Basics.{first_fit}
use Rattle.rules.specs.Fractions.{Fraction}
use Rattle.rules.specs.Stamps.{Stamp, at, is_earlier}
use Rattle.rules.specs.Books.{Book, BookChange, book_rows, changed}
use Rattle.rules.specs.Boxes.{Box}
use Rattle.rules.specs.Slots.{Queue, leg_slot, sooner, first_below, first}
use Rattle.model.specs.Halls.{Hall, State, empty_hall, with_book, in_hall, left, due_by, next_due, quiet}
use Rattle.model.specs.Moves.{then, each, fired, take_away, enter, leave, craft_of, craft_set, followers, come_back, change, lower_of, higher_of, fire_leg, fire_kind, fire}
use Rattle.model.specs.Calls.{Change, entering, leaving, booking, Call, changing, setting, stepping, running, resting, touching, listing, asking}
use Rattle.model.specs.Refusals.{not_mine, change_rows, rows, refusal}
use Rattle.model.specs.Runs.{run_in, run_on, ending}
use Rattle.model.specs.Performing.{make, unless, stepping_to, carried_out, perform}
use Rattle.model.specs.Histories.{events, after, lines_told}
use Rattle.accounts.proofs.Puts.{put_other}
use Rattle.accounts.proofs.Ledgers.{ledger, opened_told}
use Rattle.accounts.proofs.Slotted.{wanted}
use Rattle.accounts.proofs.Kept.{Good, enter_good, leave_good, fire_bit_good, fire_leg_good}
use Rattle.accounts.proofs.Frames.{others_around, enter_in, leave_in, fire_in, SomeEntered, followers_entered}
use Rattle.accounts.proofs.Counts.{enter_within, leave_within, change_within, fire_within, SomeOutside, outside_next, followers_outside}

pub record Sound (m : Hall) (ls : List ℕ) : Type 0 where
  pub good : Good (wanted (in_hall m)) (ledger m ls)
  pub range : (c : ℕ) → 64 ≤ c → in_hall m c ≡ false

none_more : (m : Hall) (ls : List ℕ) → Sound m ls → Sound m (ls ++ [])
none_more m ls h = subst (λ (xs : List ℕ). Sound m xs) (sym (append-nil ls)) h

-- THE MOVES

enter_sound : (c : ℕ) (b : Box) (k : Stamp) (m : Hall) (ls : List ℕ) → c < 64 → in_hall m c ≡ false → Sound m ls → Sound (enter c b k m).hall (ls ++ (enter c b k m).lines)
enter_sound c b k m ls p e h = record {
  good = subst (λ (E : ℕ → Bool). Good (wanted E) (ledger (enter c b k m).hall (ls ++ (enter c b k m).lines))) (sym (enter_in c b k m)) (enter_good (in_hall m) c b k m ls (others_around c m p) e h.good);
  range = λ d q. ap (λ (E : ℕ → Bool). E d) (enter_in c b k m) ∙ put_other (in_hall m) c true d (λ r. omega arith) ∙ h.range d q;
}

leave_sound : (c : ℕ) (m : Hall) (ls : List ℕ) → c < 64 → in_hall m c ≡ true → Sound m ls → Sound (leave c m).hall (ls ++ (leave c m).lines)
leave_sound c m ls p e h = record {
  good = subst (λ (E : ℕ → Bool). Good (wanted E) (ledger (leave c m).hall (ls ++ (leave c m).lines))) (sym (leave_in c m)) (leave_good (in_hall m) c m ls (others_around c m p) e h.good);
  range = λ d q. ap (λ (E : ℕ → Bool). E d) (leave_in c m) ∙ put_other (in_hall m) c false d (λ r. omega arith) ∙ h.range d q;
}

leave_each : (ds : List ℕ) (m : Hall) (ls : List ℕ) → SomeEntered m ds → Sound m ls → Sound (each leave ds m).hall (ls ++ (each leave ds m).lines)
leave_each [] m ls o h = none_more m ls h
leave_each (d ∷ ds) m ls o h =
    let n = (leave d m).hall in
    subst (λ (xs : List ℕ). Sound (each leave ds n).hall xs) (append_assoc ls (leave d m).lines (each leave ds n).lines)
    (leave_each ds n (ls ++ (leave d m).lines)
    (record {
      range = λ e q. o.range e (Memᴰ.tail q);
      inside = λ e q. ap (λ (E : ℕ → Bool). E e) (leave_in d m) ∙ put_other (in_hall m) d false e (λ r. let g = o.apart.0 e q in omega arith) ∙ o.inside e (Memᴰ.tail q);
      apart = o.apart.1;
    })
    (leave_sound d m ls (o.range d (Memᴰ.head refl)) (o.inside d (Memᴰ.head refl)) h))

enter_each : (ds : List ℕ) (m₀ : Hall) (k : Stamp) (m : Hall) (ls : List ℕ) → SomeOutside m ds → Sound m ls → Sound (come_back ds m₀ k m).hall (ls ++ (come_back ds m₀ k m).lines)
enter_each [] m₀ k m ls o h = none_more m ls h
enter_each (d ∷ ds) m₀ k m ls o h =
    let b = (craft_of d m₀).box in
    let n = (enter d b k m).hall in
    subst (λ (xs : List ℕ). Sound (come_back ds m₀ k n).hall xs) (append_assoc ls (enter d b k m).lines (come_back ds m₀ k n).lines)
    (enter_each ds m₀ k n (ls ++ (enter d b k m).lines) (outside_next d ds b k m o) (enter_sound d b k m ls (o.range d (Memᴰ.head refl)) (o.outside d (Memᴰ.head refl)) h))

change_sound : (x : BookChange) (k : Stamp) (m : Hall) (ls : List ℕ) → Sound m ls → Sound (change x k m).hall (ls ++ (change x k m).lines)
change_sound x k m ls h =
    let ds = followers (craft_set x) m in
    let n = (each leave ds m).hall in
    let g = leave_each ds m ls (followers_entered (craft_set x) m) h in
    subst (λ (xs : List ℕ). Sound (change x k m).hall xs) (append_assoc ls (each leave ds m).lines (come_back ds m k (with_book (changed x n.book) n)).lines)
    (enter_each ds m k (with_book (changed x n.book) n) (ls ++ (each leave ds m).lines) (followers_outside x m) (record { good = g.good; range = g.range }))

-- a slot that is wanted: of a pair in order, or of an entered craft
pub wanted_pair : (E : ℕ → Bool) (s : ℕ) → ltb s 12288 ≡ true → wanted E s ≡ true → lower_of s < higher_of s
wanted_pair E s p e = ltb-true (lower_of s) (higher_of s) (last (E (lower_of s) && E (higher_of s)) (ltb (lower_of s) (higher_of s)) (ap (λ (b : Bool). cond b (E (lower_of s) && E (higher_of s) && ltb (lower_of s) (higher_of s)) (E (s - 12288))) (sym p) ∙ e))
  where
    last : (x y : Bool) → x && y ≡ true → y ≡ true
    last true y q = q
    last false y q = absurd (both_ways false refl q)

pub wanted_leg : (E : ℕ → Bool) (s : ℕ) → ltb s 12288 ≡ false → wanted E s ≡ true → E (s - 12288) ≡ true
wanted_leg E s p e = ap (λ (b : Bool). cond b (E (lower_of s) && E (higher_of s) && ltb (lower_of s) (higher_of s)) (E (s - 12288))) (sym p) ∙ e

fire_sound : (s : ℕ) (k : Stamp) (m : Hall) (ls : List ℕ) → s < 12352 → wanted (in_hall m) s ≡ true → Sound m ls → Sound (fire s k m).hall (ls ++ (fire s k m).lines)
fire_sound s k m ls p e h = record {
  good = subst (λ (E : ℕ → Bool). Good (wanted E) (ledger (fire s k m).hall (ls ++ (fire s k m).lines))) (sym stays) (by (ltb s 12288) refl);
  range = λ d q. ap (λ (E : ℕ → Bool). E d) stays ∙ h.range d q;
}
  where
    stays : in_hall (fire s k m).hall ≡ in_hall m
    stays = fire_in s k m (λ q. wanted_leg (in_hall m) s (le-ltb s 12288 q) e)

    by : (b : Bool) → ltb s 12288 ≡ b → let o = then (take_away fired s) (fire_kind b s k) m in Good (wanted (in_hall m)) (ledger o.hall (ls ++ o.lines))
    by true q = let g = wanted_pair (in_hall m) s q e in fire_bit_good (wanted (in_hall m)) s k (ltb-true s 12288 q) (omega arith) e m ls h.good
    by false q =
        let g = ltb-false s 12288 q in
        let same : leg_slot (s - 12288) ≡ s = omega arith in
        subst (λ (t : ℕ). let o = then (take_away fired t) (fire_leg (s - 12288) k) m in Good (wanted (in_hall m)) (ledger o.hall (ls ++ o.lines))) same
        (fire_leg_good (in_hall m) (s - 12288) k m ls (others_around (s - 12288) m (omega arith)) (wanted_leg (in_hall m) s q e) h.good)

-- WHAT IS DUE STANDS

clash : {A : Type 0} (x : A) → None ≡ Some x → ⊥
clash x e = let z : ◌≡◌ {A = ℕ} 0 1 = cc in omega arith

pub first_holds : (n : ℕ) (q : Queue) (f : ℕ × Stamp) → first_below n q ≡ Some f → (q f.0 ≡ Some f.1) × (f.0 < n)
first_holds zero q f e = absurd (clash f e)
first_holds (suc n) q f e = by (λ g. first_holds n q f g) (first_below n q) (q n) refl refl e
  where
    here : (k : Stamp) → q n ≡ Some k → (n, k) ≡ f → (q f.0 ≡ Some f.1) × (f.0 < suc n)
    here k g h = subst (λ (p : ℕ × Stamp). (q p.0 ≡ Some p.1) × (p.0 < suc n)) h (g, omega arith)

    later : (q f.0 ≡ Some f.1) × (f.0 < n) → (q f.0 ≡ Some f.1) × (f.0 < suc n)
    later h = (h.0, omega arith)

    either : (first_below n q ≡ Some f → (q f.0 ≡ Some f.1) × (f.0 < n)) → (b : ℕ × Stamp) (k : Stamp) → first_below n q ≡ Some b → q n ≡ Some k → (t : Bool) → cond t (Some (n, k)) (Some b) ≡ Some f → (q f.0 ≡ Some f.1) × (f.0 < suc n)
    either more b k p g true h = here k g (cc)
    either more b k p g false h = later (more (p ∙ h))

    by : (first_below n q ≡ Some f → (q f.0 ≡ Some f.1) × (f.0 < n)) → (b : Option (ℕ × Stamp)) (o : Option Stamp) → first_below n q ≡ b → q n ≡ o → sooner b n o ≡ Some f → (q f.0 ≡ Some f.1) × (f.0 < suc n)
    by more b None p g h = later (more (p ∙ h))
    by more None (Some k) p g h = here k g (cc)
    by more (Some b) (Some k) p g h = either more b k p g (is_earlier k b.1) h

pub due_first : (goal : Fraction) (o : Option (ℕ × Stamp)) (f : ℕ × Stamp) → due_by goal o ≡ Some f → o ≡ Some f
due_first goal None f e = e
due_first goal (Some g) f e = by (is_earlier (at goal) g.1) e
  where
    by : (b : Bool) → cond b None (Some g) ≡ Some f → Some g ≡ Some f
    by true e = absurd (clash f e)
    by false e = e

-- what is due stands in its slot, at its moment
pub record Due (m : Hall) (f : ℕ × Stamp) : Type 0 where
  pub queued : m.queue f.0 ≡ Some f.1
  pub slot : f.0 < 12352

pub next_holds : (goal : Fraction) (m : Hall) (f : ℕ × Stamp) → next_due goal m ≡ Some f → Due m f
next_holds goal m f e = let h = first_holds 12352 m.queue f (due_first goal (first m.queue) f e) in record { queued = h.0; slot = h.1 }

pub queued_wanted : (m : Hall) (ls : List ℕ) → Sound m ls → (s : ℕ) (k : Stamp) → m.queue s ≡ Some k → wanted (in_hall m) s ≡ true
queued_wanted m ls h s k e = sym (h.good.taken s) ∙ by (m.number s) refl
  where
    by : (n : ℕ) → m.number s ≡ n → ltb 0 (m.number s) ≡ true
    by zero q = absurd (clash k (sym (h.good.told.empty s q) ∙ e))
    by (suc n) q = lt-ltb 0 (m.number s) (omega arith)

-- THE CALLS

pub record Stands (m : Hall) (ls : List ℕ) : Type 0 where
  pub sound : Sound m ls
  pub limit : m.last ≤ 20000000

still : (m : Hall) (ls : List ℕ) → Stands m ls → Stands m (ls ++ [])
still m ls h = record { sound = none_more m ls h.sound; limit = h.limit }

pub fire_stands : (f : ℕ × Stamp) (m : Hall) (ls : List ℕ) → Due m f → 190 ≤ left m → Stands m ls → Stands (fire f.0 f.1 m).hall (ls ++ (fire f.0 f.1 m).lines)
fire_stands f m ls d p h = record {
  sound = fire_sound f.0 f.1 m ls d.slot (queued_wanted m ls h.sound f.0 f.1 d.queued) h.sound;
  limit = let w = fire_within f.0 f.1 m d.slot in let g = w.0.most in omega arith;
}

-- no row of a table fits
pub fit_none : (n : ℕ) (b : Bool) (rs : List (ℕ × Bool)) → first_fit ((n, b) ∷ rs) ≡ None → (b ≡ false) × (first_fit rs ≡ None)
fit_none n true rs e = absurd (clash n (sym e))
fit_none n false rs e = (refl, e)

-- each row of a table does not fit
abbrev pub Unfit : List (ℕ × Bool) → Type 0
Unfit [] = Unit
Unfit (r ∷ rs) = (r.1 ≡ false) × Unfit rs

pub unfit : (rs : List (ℕ × Bool)) → first_fit rs ≡ None → Unfit rs
unfit [] e = tt
unfit (r ∷ rs) e = let h = fit_none r.0 r.1 rs e in (h.0, unfit rs h.1)

pub fit_rest : (xs ys : List (ℕ × Bool)) → first_fit (xs ++ ys) ≡ None → first_fit ys ≡ None
fit_rest [] ys e = e
fit_rest (x ∷ xs) ys e = fit_rest xs ys (fit_none x.0 x.1 (xs ++ ys) e).1

run_stands : (n : ℕ) (goal : Fraction) (lines bytes : ℕ) (m : Hall) (ls : List ℕ) → Stands m ls → Stands (run_in n goal lines bytes m).hall (ls ++ (run_in n goal lines bytes m).lines)
run_stands zero goal lines bytes m ls h = still m ls h
run_stands (suc n) goal lines bytes m ls h = by (run_stands n goal) (next_due goal m) (ending (next_due goal m) lines bytes m) refl refl
  where
    by : ((l b : ℕ) (k : Hall) (xs : List ℕ) → Stands k xs → Stands (run_in n goal l b k).hall (xs ++ (run_in n goal l b k).lines)) → (f : Option (ℕ × Stamp)) (o : Option ℕ) →
        next_due goal m ≡ f → ending (next_due goal m) lines bytes m ≡ o → Stands (run_on (run_in n goal) f o lines bytes m).hall (ls ++ (run_on (run_in n goal) f o lines bytes m).lines)
    by more None None p q = still m ls h
    by more None (Some k) p q = still m ls h
    by more (Some f) (Some k) p q = still m ls h
    by more (Some f) None p q =
        let r = unfit ((0, not (is_some (next_due goal m))) ∷ (15, ltb lines 380 || ltb bytes 11) ∷ (16, ltb (left m) 190) ∷ []) q in
        subst (λ (xs : List ℕ). Stands (run_on (run_in n goal) (Some f) None lines bytes m).hall xs) (append_assoc ls (fire f.0 f.1 m).lines _)
        (more _ _ (fire f.0 f.1 m).hall (ls ++ (fire f.0 f.1 m).lines) (fire_stands f m ls (next_holds goal m f p) (ltb-false (left m) 190 r.1.1.0) h))

make_stands : (x : Change) (slip : ℕ) (k : Stamp) (m : Hall) (ls : List ℕ) → first_fit (change_rows x slip m) ≡ None → Stands m ls → Stands (make x k m).hall (ls ++ (make x k m).lines)
make_stands (entering c b) slip k m ls e h =
    let r = unfit (change_rows (entering c b) slip m) e in
    let p = leb-false 64 c r.0 in
    let w = enter_within c b k m p in
    let g = ltb-false (left m) 190 r.1.1.1.1.0 in
    record { sound = enter_sound c b k m ls p r.1.0 h.sound; limit = let u = w.most in let v = h.limit in omega arith }
make_stands (leaving c) slip k m ls e h =
    let r = unfit (change_rows (leaving c) slip m) e in
    let p = leb-false 64 c r.0 in
    let w = leave_within c m p in
    record { sound = leave_sound c m ls p (not-false (in_hall m c) r.1.0) h.sound; limit = let u = w.most in let v = h.limit in omega arith }
make_stands (booking x) slip k m ls e h =
    let r = unfit ((15, ltb slip 12224) ∷ (16, ltb (left m) 6112) ∷ []) (fit_rest (book_rows x m.book) ((15, ltb slip 12224) ∷ (16, ltb (left m) 6112) ∷ []) e) in
    let w = change_within x k m in
    let g = ltb-false (left m) 6112 r.1.0 in
    record { sound = change_sound x k m ls h.sound; limit = let u = w.most in let v = h.limit in omega arith }

carried_stands : (call : Call) (z : State) (ls : List ℕ) → refusal call z ≡ None → Stands z.hall ls → Stands (carried_out call z).state.hall (ls ++ (carried_out call z).answer.lines)
carried_stands (changing t x slip) z ls e h = make_stands x slip (at t) z.hall ls (fit_rest ((1, not_mine z (quiet t)) ∷ []) (change_rows x slip z.hall) e) h
carried_stands (setting t n d) z ls e h = still z.hall ls h
carried_stands (stepping t g slip) z ls e h = by (next_due g z.hall) refl
  where
    by : (f : Option (ℕ × Stamp)) → next_due g z.hall ≡ f → Stands (stepping_to f z).state.hall (ls ++ (stepping_to f z).answer.lines)
    by None p = still z.hall ls h
    by (Some f) p =
        let r = unfit (rows (stepping t g slip) z) e in
        fire_stands f z.hall ls (next_holds g z.hall f p) (ltb-false (left z.hall) 190 r.1.1.1.0) h
carried_stands (running t g slip page) z ls e h = run_stands (suc (left z.hall)) g slip page z.hall ls h
carried_stands (resting t g) z ls e h = still z.hall ls h
carried_stands (touching t c d) z ls e h = still z.hall ls h
carried_stands (listing t room) z ls e h = still z.hall ls h
carried_stands (asking s) z ls e h = still z.hall ls h

pub perform_stands : (call : Call) (z : State) (ls : List ℕ) → Stands z.hall ls → Stands (perform call z).state.hall (ls ++ (perform call z).answer.lines)
perform_stands call z ls h = by (refusal call z) refl
  where
    by : (o : Option ℕ) → refusal call z ≡ o → Stands (unless o call z).state.hall (ls ++ (unless o call z).answer.lines)
    by None e = carried_stands call z ls e h
    by (Some n) e = still z.hall ls h

pub story_stands : (calls : List Call) (z : State) (ls : List ℕ) → Stands z.hall ls → Stands (after calls z).hall (ls ++ lines_told (events calls z))
story_stands [] z ls h = still z.hall ls h
story_stands (x ∷ xs) z ls h =
    let n = (perform x z).state in
    subst (λ (ys : List ℕ). Stands (after xs n).hall ys) (append_assoc ls (perform x z).answer.lines (lines_told (events xs n)))
    (story_stands xs n (ls ++ (perform x z).answer.lines) (perform_stands x z ls h))

pub opened_stands : (b : Book) → Stands (empty_hall b) []
opened_stands b = record { sound = record { good = record { told = opened_told b; taken = λ s. le-ltb 0 0 (omega arith) ∙ none s }; range = λ c p. refl }; limit = omega arith }
  where
    none : (s : ℕ) → false ≡ wanted (λ c. false) s
    none s = by (ltb s 12288)
      where
        by : (b : Bool) → false ≡ cond b (false && false && ltb (lower_of s) (higher_of s)) false
        by true = refl
        by false = refl
