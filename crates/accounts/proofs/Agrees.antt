-- What a history tells agrees with the state: the clock, the book, and the entered craft with their boxes.
use Rattle.std.proofs.Common.{◌≡◌, ℕ, zero, suc, ◌-◌, ◌≤◌, Bool, true, false, cond, not, ◌||◌, eqb, ltb, ◌⊎◌, List, [], ◌∷◌, ◌++◌, is_some, Some, None, Option, sym, refl, ap, ◌∙◌, inl, inr, arith, ltb-false, le-ltb, eqb-true}
use mathlib.Core.List.Memᴰ
use Rattle.rules.specs.Basics.{◌∈◌, put, the}
use Rattle.rules.specs.Fractions.{Fraction}
use Rattle.rules.specs.Stamps.{Stamp, at}
use Rattle.rules.specs.Paths.{Axis, X, Y, Z}
use Rattle.rules.specs.Books.{Book, BookChange, changed, changed_by}
use Rattle.rules.specs.Boxes.{Box}
use Rattle.rules.specs.Slots.{slot}
use Rattle.model.specs.Halls.{Craft, Hall, State, Clock, opened, with_book, in_hall, others, next_due, left}
use Rattle.model.specs.Moves.{Out, then, each, on_axes, withdrawn, fired, take_away, grant_bit, enter_bit, drop_bit, read_leg, nobody, craft_of, enter, leave, craft_set, followers, come_back, change, renew, fire_leg, fire_kind, fire}
use Rattle.model.specs.Calls.{Change, entering, leaving, booking, Call, changing, setting, stepping, running, resting, touching, listing, asking}
use Rattle.model.specs.Refusals.{refusal}
use Rattle.model.specs.Runs.{run_in, run_on, ending}
use Rattle.model.specs.Performing.{make, unless, stepping_to, carried_out, perform}
use Rattle.model.specs.Histories.{events, after, change_of, if_accepted, changes, book_changes, book_now, boxes_with, boxes_from, boxes_now, clock_given, clock_from, clock_now}
use Rattle.model.specs.Statement.{story}
use Rattle.accounts.specs.Laws.{box_in, boxes, HistoriesAgree}
use Rattle.accounts.proofs.Puts.{put_here, put_other, same_or_not}
use Rattle.accounts.proofs.Frames.{enter_craft, leave_craft, fire_leg_craft, followers_entered}
use Rattle.accounts.proofs.Counts.{SomeOutside, outside_next, followers_outside}
use Rattle.accounts.proofs.Sound.{wanted_leg, queued_wanted, Sound, Stands, Due, fire_stands, unfit, perform_stands, opened_stands, next_holds}

-- WHAT A MOVE LEAVES AS IT WAS

-- get reads something that no move of the list changes
pub each_keeps : {A : Type 0} (get : Hall → A) (f : ℕ → Hall → Out) → ((d : ℕ) (h : Hall) → get (f d h).hall ≡ get h) → (ds : List ℕ) (m : Hall) → get (each f ds m).hall ≡ get m
each_keeps get f p [] m = refl
each_keeps get f p (d ∷ ds) m = each_keeps get f p ds (f d m).hall ∙ p d m

pub axes_keep : {A : Type 0} (get : Hall → A) (f : Axis → Hall → Out) → ((a : Axis) (h : Hall) → get (f a h).hall ≡ get h) → (m : Hall) → get (on_axes f m).hall ≡ get m
axes_keep get f p m = p Z (f Y (f X m).hall).hall ∙ p Y (f X m).hall ∙ p X m

abbrev book_in : Hall → Book
book_in m = m.book

pub enter_book : (c : ℕ) (b : Box) (k : Stamp) (m : Hall) → (enter c b k m).hall.book ≡ m.book
enter_book c b k m = axes_keep book_in (λ a. each (enter_bit a c k) (others c m)) (λ a h. each_keeps book_in (enter_bit a c k) (λ d n. refl) (others c m) h) (read_leg c b k m)

pub leave_book : (c : ℕ) (m : Hall) → (leave c m).hall.book ≡ m.book
leave_book c m = axes_keep book_in (λ a. each (drop_bit a c) (others c m)) (λ a h. each_keeps book_in (drop_bit a c) (λ d n. refl) (others c m) h) m

renew_book : (c : ℕ) (ds : List ℕ) (k : Stamp) (a : Axis) (h : Hall) → (renew c ds k a h).hall.book ≡ h.book
renew_book c ds k a h =
    each_keeps book_in (λ d. grant_bit a c d k) (λ d n. refl) ds (each (λ d. take_away withdrawn (slot a c d)) ds h).hall
    ∙ each_keeps book_in (λ d. take_away withdrawn (slot a c d)) (λ d n. refl) ds h

pub fire_book : (s : ℕ) (k : Stamp) (m : Hall) → (fire s k m).hall.book ≡ m.book
fire_book s k m = by (ltb s 12288)
  where
    n : Hall
    n = (take_away fired s m).hall

    by : (b : Bool) → (then (take_away fired s) (fire_kind b s k) m).hall.book ≡ m.book
    by true = refl
    by false = axes_keep book_in (renew (s - 12288) (others (s - 12288) (take_away fired s m).hall) k) (renew_book (s - 12288) (others (s - 12288) (take_away fired s m).hall) k) (read_leg (s - 12288) (craft_of (s - 12288) (take_away fired s m).hall).box k (take_away fired s m).hall)

pub change_book : (x : BookChange) (k : Stamp) (m : Hall) → (change x k m).hall.book ≡ changed x m.book
change_book x k m =
    let ds = followers (craft_set x) m in
    let h = (each leave ds m).hall in
    each_keeps book_in (λ d. enter d (craft_of d m).box k) (λ d n. enter_book d (craft_of d m).box k n) ds (with_book (changed x h.book) h)
    ∙ ap (changed x) (each_keeps book_in leave leave_book ds m)

-- THE BOXES

box_put : (f : ℕ → Option Craft) (c : ℕ) (o : Option Craft) (d : ℕ) → box_in (put f c o d) ≡ put (λ j. box_in (f j)) c (box_in o) d
box_put f c o d = by (eqb d c)
  where
    by : (b : Bool) → box_in (cond b o (f d)) ≡ cond b (box_in o) (box_in (f d))
    by true = refl
    by false = refl

same_boxes : (f g : ℕ → Option Box) → ((d : ℕ) → f d ≡ g d) → f ≡ g
same_boxes f g h = λ i d. h d i

boxes_put : (m n : Hall) (c : ℕ) (o : Option Craft) → n.craft ≡ put m.craft c o → boxes n ≡ put (boxes m) c (box_in o)
boxes_put m n c o e = same_boxes (boxes n) (put (boxes m) c (box_in o)) (λ d. ap (λ (f : ℕ → Option Craft). box_in (f d)) e ∙ box_put m.craft c o d)

pub enter_boxes : (c : ℕ) (b : Box) (k : Stamp) (m : Hall) → boxes (enter c b k m).hall ≡ put (boxes m) c (Some b)
enter_boxes c b k m = boxes_put m (enter c b k m).hall c _ (enter_craft c b k m)

pub leave_boxes : (c : ℕ) (m : Hall) → boxes (leave c m).hall ≡ put (boxes m) c None
leave_boxes c m = boxes_put m (leave c m).hall c None (leave_craft c m)

-- an entered craft has the box that its record tells
pub box_of : (m : Hall) (c : ℕ) → in_hall m c ≡ true → boxes m c ≡ Some (craft_of c m).box
box_of m c e = by (m.craft c) e
  where
    by : (o : Option Craft) → is_some o ≡ true → box_in o ≡ Some (the nobody o).box
    by None e = let z : ◌≡◌ {A = ℕ} 0 1 = cc in absurd (omega arith)
    by (Some r) e = refl

put_back : (f : ℕ → Option Box) (c : ℕ) (o : Option Box) → f c ≡ o → put f c o ≡ f
put_back f c o e = same_boxes (put f c o) f (λ d. by d (eqb d c) refl)
  where
    by : (d : ℕ) (b : Bool) → eqb d c ≡ b → cond b o (f d) ≡ f d
    by d true q = sym e ∙ ap f (sym (eqb-true d c q))
    by d false q = refl

pub fire_boxes : (s : ℕ) (k : Stamp) (m : Hall) → (12288 ≤ s → in_hall m (s - 12288) ≡ true) → boxes (fire s k m).hall ≡ boxes m
fire_boxes s k m h = by (ltb s 12288) refl
  where
    by : (b : Bool) → ltb s 12288 ≡ b → boxes (then (take_away fired s) (fire_kind b s k) m).hall ≡ boxes m
    by true e = refl
    by false e =
        let c = s - 12288 in
        let n = (take_away fired s m).hall in
        boxes_put n (fire_leg c k n).hall c _ (fire_leg_craft c k n) ∙ put_back (boxes m) c (Some (craft_of c n).box) (box_of m c (h (ltb-false s 12288 e)))

-- a number stands in a list or not
pub member : (ds : List ℕ) (j : ℕ) → (j ∈ ds) ⊎ (j ∈ ds → ⊥)
member [] j = inr (λ e. Memᴰ.not-nil e)
member (d ∷ ds) j = by (same_or_not j d) (member ds j)
  where
    by : (j ≡ d) ⊎ (j ≡ d → ⊥) → (j ∈ ds) ⊎ (j ∈ ds → ⊥) → (j ∈ (d ∷ ds)) ⊎ (j ∈ (d ∷ ds) → ⊥)
    by (inl e) o = inl (Memᴰ.head e)
    by (inr e) (inl g) = inl (Memᴰ.tail g)
    by (inr e) (inr g) = inr (λ q. out (Memᴰ.cases_cons q))
      where
        out : (j ≡ d) ⊎ (j ∈ ds) → ⊥
        out (inl r) = e r
        out (inr r) = g r

at_put : (f g : ℕ → Option Box) (c : ℕ) (o : Option Box) (j : ℕ) → f ≡ put g c o → (j ≡ c → ⊥) → f j ≡ g j
at_put f g c o j e ne = ap (λ (h : ℕ → Option Box). h j) e ∙ put_other g c o j ne

-- all of a list leave: the others keep their boxes
leave_others : (ds : List ℕ) (m : Hall) (j : ℕ) → (j ∈ ds → ⊥) → boxes (each leave ds m).hall j ≡ boxes m j
leave_others [] m j e = refl
leave_others (d ∷ ds) m j e = leave_others ds (leave d m).hall j (λ g. e (Memᴰ.tail g)) ∙ at_put (boxes (leave d m).hall) (boxes m) d None j (leave_boxes d m) (λ q. e (Memᴰ.head q))

enter_others : (ds : List ℕ) (m₀ : Hall) (k : Stamp) (m : Hall) (j : ℕ) → (j ∈ ds → ⊥) → boxes (come_back ds m₀ k m).hall j ≡ boxes m j
enter_others [] m₀ k m j e = refl
enter_others (d ∷ ds) m₀ k m j e =
    enter_others ds m₀ k (enter d (craft_of d m₀).box k m).hall j (λ g. e (Memᴰ.tail g))
    ∙ at_put (boxes (enter d (craft_of d m₀).box k m).hall) (boxes m) d (Some (craft_of d m₀).box) j (enter_boxes d (craft_of d m₀).box k m) (λ q. e (Memᴰ.head q))

-- those that come back have the boxes that they had
enter_own : (ds : List ℕ) (m₀ : Hall) (k : Stamp) (m : Hall) (j : ℕ) → SomeOutside m ds → j ∈ ds → boxes (come_back ds m₀ k m).hall j ≡ Some (craft_of j m₀).box
enter_own [] m₀ k m j o e = absurd (Memᴰ.not-nil e)
enter_own (d ∷ ds) m₀ k m j o e = by (λ g. enter_own ds m₀ k (enter d (craft_of d m₀).box k m).hall j (outside_next d ds (craft_of d m₀).box k m o) g) (Memᴰ.cases_cons e)
  where
    by : (j ∈ ds → boxes (come_back ds m₀ k (enter d (craft_of d m₀).box k m).hall).hall j ≡ Some (craft_of j m₀).box) → (j ≡ d) ⊎ (j ∈ ds) → boxes (come_back ds m₀ k (enter d (craft_of d m₀).box k m).hall).hall j ≡ Some (craft_of j m₀).box
    by more (inr g) = more g
    by more (inl g) =
        enter_others ds m₀ k (enter d (craft_of d m₀).box k m).hall j (λ q. let h = o.apart.0 j q in omega arith)
        ∙ ap (λ (h : ℕ → Option Box). h j) (enter_boxes d (craft_of d m₀).box k m) ∙ ap (put (boxes m) d (Some (craft_of d m₀).box)) g
        ∙ put_here (boxes m) d (Some (craft_of d m₀).box) ∙ ap (λ (i : ℕ). Some (craft_of i m₀).box) (sym g)

pub change_boxes : (x : BookChange) (k : Stamp) (m : Hall) → boxes (change x k m).hall ≡ boxes m
change_boxes x k m = same_boxes (boxes (change x k m).hall) (boxes m) (λ j. by j (member (followers (craft_set x) m) j))
  where
    by : (j : ℕ) → (j ∈ followers (craft_set x) m) ⊎ (j ∈ followers (craft_set x) m → ⊥) → boxes (change x k m).hall j ≡ boxes m j
    by j (inl e) =
        let ds = followers (craft_set x) m in
        let h = (each leave ds m).hall in
        enter_own ds m k (with_book (changed x h.book) h) j (followers_outside x m) e ∙ sym (box_of m j ((followers_entered (craft_set x) m).inside j e))
    by j (inr e) =
        let ds = followers (craft_set x) m in
        let h = (each leave ds m).hall in
        enter_others ds m k (with_book (changed x h.book) h) j e ∙ leave_others ds m j e

-- THE CALLS

run_book : (n : ℕ) (goal : Fraction) (lines bytes : ℕ) (m : Hall) → (run_in n goal lines bytes m).hall.book ≡ m.book
run_book zero goal lines bytes m = refl
run_book (suc n) goal lines bytes m = by (λ l b h. run_book n goal l b h) (next_due goal m) (ending (next_due goal m) lines bytes m)
  where
    by : ((l b : ℕ) (h : Hall) → (run_in n goal l b h).hall.book ≡ h.book) → (f : Option (ℕ × Stamp)) (o : Option ℕ) → (run_on (run_in n goal) f o lines bytes m).hall.book ≡ m.book
    by more None None = refl
    by more None (Some j) = refl
    by more (Some f) (Some j) = refl
    by more (Some f) None = more _ _ (fire f.0 f.1 m).hall ∙ fire_book f.0 f.1 m

-- the craft of a leg that is due is entered
due_in : (m : Hall) (ls : List ℕ) → Sound m ls → (f : ℕ × Stamp) → Due m f → 12288 ≤ f.0 → in_hall m (f.0 - 12288) ≡ true
due_in m ls h f d p = wanted_leg (in_hall m) f.0 (le-ltb f.0 12288 p) (queued_wanted m ls h f.0 f.1 d.queued)

run_boxes : (n : ℕ) (goal : Fraction) (lines bytes : ℕ) (m : Hall) (ls : List ℕ) → Stands m ls → boxes (run_in n goal lines bytes m).hall ≡ boxes m
run_boxes zero goal lines bytes m ls h = refl
run_boxes (suc n) goal lines bytes m ls h = by (λ l b k xs g. run_boxes n goal l b k xs g) (next_due goal m) (ending (next_due goal m) lines bytes m) refl refl
  where
    by : ((l b : ℕ) (k : Hall) (xs : List ℕ) → Stands k xs → boxes (run_in n goal l b k).hall ≡ boxes k) → (f : Option (ℕ × Stamp)) (o : Option ℕ) →
        next_due goal m ≡ f → ending (next_due goal m) lines bytes m ≡ o → boxes (run_on (run_in n goal) f o lines bytes m).hall ≡ boxes m
    by more None None p q = refl
    by more None (Some j) p q = refl
    by more (Some f) (Some j) p q = refl
    by more (Some f) None p q =
        let r = unfit ((0, not (is_some (next_due goal m))) ∷ (15, ltb lines 380 || ltb bytes 11) ∷ (16, ltb (left m) 190) ∷ []) q in
        let d = next_holds goal m f p in
        more _ _ (fire f.0 f.1 m).hall _ (fire_stands f m ls d (ltb-false (left m) 190 r.1.1.0) h)
        ∙ fire_boxes f.0 f.1 m (due_in m ls h.sound f d)

-- what a call changes, told by its answer
abbrev told_changes : Call → State → List Change
told_changes call z = if_accepted (perform call z).answer.result (change_of call)

make_book : (x : Change) (k : Stamp) (m : Hall) → (make x k m).hall.book ≡ changed_by (book_changes (x ∷ [])) m.book
make_book (entering c b) k m = enter_book c b k m
make_book (leaving c) k m = leave_book c m
make_book (booking x) k m = change_book x k m

perform_book : (call : Call) (z : State) → (perform call z).state.hall.book ≡ changed_by (book_changes (told_changes call z)) z.hall.book
perform_book call z = by (refusal call z)
  where
    carried : (call : Call) → (carried_out call z).state.hall.book ≡ changed_by (book_changes (if_accepted (carried_out call z).answer.result (change_of call))) z.hall.book
    carried (changing t x slip) = make_book x (at t) z.hall
    carried (setting t n d) = refl
    carried (stepping t g slip) = step (next_due g z.hall)
      where
        step : (f : Option (ℕ × Stamp)) → (stepping_to f z).state.hall.book ≡ changed_by (book_changes (if_accepted (stepping_to f z).answer.result [])) z.hall.book
        step None = refl
        step (Some f) = fire_book f.0 f.1 z.hall
    carried (running t g slip page) = run_book (suc (left z.hall)) g slip page z.hall
    carried (resting t g) = refl
    carried (touching t c d) = refl
    carried (listing t room) = refl
    carried (asking s) = refl

    by : (o : Option ℕ) → (unless o call z).state.hall.book ≡ changed_by (book_changes (if_accepted (unless o call z).answer.result (change_of call))) z.hall.book
    by None = carried call
    by (Some n) = refl

make_boxes : (x : Change) (k : Stamp) (m : Hall) → boxes (make x k m).hall ≡ boxes_from (boxes m) (x ∷ [])
make_boxes (entering c b) k m = enter_boxes c b k m
make_boxes (leaving c) k m = leave_boxes c m
make_boxes (booking x) k m = change_boxes x k m

perform_boxes : (call : Call) (z : State) (ls : List ℕ) → Stands z.hall ls → boxes (perform call z).state.hall ≡ boxes_from (boxes z.hall) (told_changes call z)
perform_boxes call z ls h = by (refusal call z)
  where
    carried : (call : Call) → boxes (carried_out call z).state.hall ≡ boxes_from (boxes z.hall) (if_accepted (carried_out call z).answer.result (change_of call))
    carried (changing t x slip) = make_boxes x (at t) z.hall
    carried (setting t n d) = refl
    carried (stepping t g slip) = step (next_due g z.hall) refl
      where
        step : (f : Option (ℕ × Stamp)) → next_due g z.hall ≡ f → boxes (stepping_to f z).state.hall ≡ boxes_from (boxes z.hall) (if_accepted (stepping_to f z).answer.result [])
        step None e = refl
        step (Some f) e = fire_boxes f.0 f.1 z.hall (due_in z.hall ls h.sound f (next_holds g z.hall f e))
    carried (running t g slip page) = run_boxes (suc (left z.hall)) g slip page z.hall ls h
    carried (resting t g) = refl
    carried (touching t c d) = refl
    carried (listing t room) = refl
    carried (asking s) = refl

    by : (o : Option ℕ) → boxes (unless o call z).state.hall ≡ boxes_from (boxes z.hall) (if_accepted (unless o call z).answer.result (change_of call))
    by None = carried call
    by (Some n) = refl

perform_clock : (call : Call) (z : State) → (perform call z).state.clock ≡ clock_given (perform call z).answer.result z.clock
perform_clock call z = by (refusal call z)
  where
    carried : (call : Call) → (carried_out call z).state.clock ≡ clock_given (carried_out call z).answer.result z.clock
    carried (changing t x slip) = refl
    carried (setting t n d) = refl
    carried (stepping t g slip) = step (next_due g z.hall)
      where
        step : (f : Option (ℕ × Stamp)) → (stepping_to f z).state.clock ≡ clock_given (stepping_to f z).answer.result z.clock
        step None = refl
        step (Some f) = refl
    carried (running t g slip page) = refl
    carried (resting t g) = refl
    carried (touching t c d) = refl
    carried (listing t room) = refl
    carried (asking s) = refl

    by : (o : Option ℕ) → (unless o call z).state.clock ≡ clock_given (unless o call z).answer.result z.clock
    by None = carried call
    by (Some n) = refl

-- THE HISTORIES

pub clock_agrees : (calls : List Call) (z : State) → clock_from z.clock (events calls z) ≡ (after calls z).clock
clock_agrees [] z = refl
clock_agrees (x ∷ xs) z = ap (λ (k : Clock). clock_from k (events xs (perform x z).state)) (sym (perform_clock x z)) ∙ clock_agrees xs (perform x z).state

book_append : (xs ys : List Change) (b : Book) → changed_by (book_changes (xs ++ ys)) b ≡ changed_by (book_changes ys) (changed_by (book_changes xs) b)
book_append [] ys b = refl
book_append (entering c k ∷ xs) ys b = book_append xs ys b
book_append (leaving c ∷ xs) ys b = book_append xs ys b
book_append (booking x ∷ xs) ys b = book_append xs ys (changed x b)

pub book_agrees : (calls : List Call) (z : State) → changed_by (book_changes (changes (events calls z))) z.hall.book ≡ (after calls z).hall.book
book_agrees [] z = refl
book_agrees (x ∷ xs) z =
    book_append (told_changes x z) (changes (events xs (perform x z).state)) z.hall.book
    ∙ ap (changed_by (book_changes (changes (events xs (perform x z).state)))) (sym (perform_book x z))
    ∙ book_agrees xs (perform x z).state

boxes_append : (xs ys : List Change) (f : ℕ → Option Box) → boxes_from f (xs ++ ys) ≡ boxes_from (boxes_from f xs) ys
boxes_append [] ys f = refl
boxes_append (x ∷ xs) ys f = boxes_append xs ys (boxes_with x f)

pub boxes_agree : (calls : List Call) (z : State) (ls : List ℕ) → Stands z.hall ls → boxes_from (boxes z.hall) (changes (events calls z)) ≡ boxes (after calls z).hall
boxes_agree [] z ls h = refl
boxes_agree (x ∷ xs) z ls h =
    boxes_append (told_changes x z) (changes (events xs (perform x z).state)) (boxes z.hall)
    ∙ ap (λ (f : ℕ → Option Box). boxes_from f (changes (events xs (perform x z).state))) (sym (perform_boxes x z ls h))
    ∙ boxes_agree xs (perform x z).state (ls ++ (perform x z).answer.lines) (perform_stands x z ls h)

-- of every history
pub clock_is : (b : Book) (calls : List Call) → clock_now (story b calls) ≡ (after calls (opened b)).clock
clock_is b calls = clock_agrees calls (opened b)

pub book_is : (b : Book) (calls : List Call) → book_now b (changes (story b calls)) ≡ (after calls (opened b)).hall.book
book_is b calls = book_agrees calls (opened b)

pub boxes_are : (b : Book) (calls : List Call) → boxes_now (changes (story b calls)) ≡ boxes (after calls (opened b)).hall
boxes_are b calls = boxes_agree calls (opened b) [] (opened_stands b)

-- a craft is entered exactly where it has a box
pub box_in_hall : (m : Hall) (c : ℕ) (k : Box) → boxes m c ≡ Some k → in_hall m c ≡ true
box_in_hall m c k e = by (m.craft c) e
  where
    by : (o : Option Craft) → box_in o ≡ Some k → is_some o ≡ true
    by None e = let z : ◌≡◌ {A = ℕ} 0 1 = cc in absurd (omega arith)
    by (Some r) e = refl

pub histories_agree : HistoriesAgree
histories_agree b calls = record { clock = clock_is b calls; book = book_is b calls; boxes = boxes_are b calls }
