-- What each move does to the ledger and to the slots taken.
use Rattle.std.proofs.Common.{◌≡◌, ℕ, suc, ◌<◌, ◌≤◌, Bool, true, false, cond, not, eqb, ltb, ◌⊎◌, List, [], ◌∷◌, ◌++◌, map, None, Option, sym, refl, ap, ◌∙◌, subst, inl, inr, append_assoc, append-nil, arith, ltb-false, ltb-true, le-ltb, lt-ltb}
use Rattle.rules.specs.Basics.{◌∈◌, put}
use Rattle.rules.specs.Stamps.{Stamp}
use Rattle.rules.specs.Paths.{Axis, X, Y, Z}
use Rattle.rules.specs.Boxes.{Box}
use Rattle.rules.specs.Slots.{slot, leg_slot}
use Rattle.model.specs.Halls.{Hall, with_bit, with_craft, others}
use Rattle.model.specs.Moves.{Out, silent, then, each, on_axes, withdrawn, fired, grant, take_away, read_bit, grant_bit, enter_bit, drop_bit, grant_leg, read_leg, craft_of, enter, leave, axis_of, lower_of, higher_of, fire_bit, renew, fire_leg}
use Rattle.accounts.proofs.Puts.{put_here, put_other, same_or_not}
use Rattle.accounts.proofs.Ledgers.{Ledger, ledger, Told, granting, taking, Ends}
use Rattle.accounts.proofs.Slotted.{wanted, set_all, Ready, ready, settled, Others, axis_slots, craft_slots, axis_apart, craft_apart, in_axis, slot_named, slot_pair}
use Rattle.accounts.proofs.Wanted.{Around, pair_wanted, leg_wanted, own_slots, moved}

-- the ledger is true, and the slots taken are those of W
pub record Good (W : ℕ → Bool) (l : Ledger) : Type 0 where
  pub told : Told l
  pub taken : (s : ℕ) → ltb 0 (l.number s) ≡ W s

abbrev pub Leads : (W V : ℕ → Bool) → (Hall → Out) → Type 0
Leads W V f = (m : Hall) (ls : List ℕ) → Good W (ledger m ls) → Good V (ledger (f m).hall (ls ++ (f m).lines))

pub good_same : (W V : ℕ → Bool) → ((s : ℕ) → W s ≡ V s) → (l : Ledger) → Good W l → Good V l
good_same W V e l h = record { told = h.told; taken = λ s. h.taken s ∙ e s }

pub quiet_leads : (W : ℕ → Bool) (m : Hall) (ls : List ℕ) → Good W (ledger m ls) → Good W (ledger m (ls ++ []))
quiet_leads W m ls h = subst (λ (xs : List ℕ). Good W (ledger m xs)) (sym (append-nil ls)) h

pub grant_leads : (W : ℕ → Bool) (s : ℕ) (f : Option Stamp) → W s ≡ false → Leads W (put W s true) (grant s f)
grant_leads W s f e m ls h = record {
  told = granting s f m ls (let g = ltb-false 0 (m.number s) (h.taken s ∙ e) in omega arith) h.told;
  taken = λ j. by j (eqb j s);
}
  where
    by : (j : ℕ) (b : Bool) → ltb 0 (cond b (suc m.last) (m.number j)) ≡ cond b true (W j)
    by j true = lt-ltb 0 (suc m.last) (omega arith)
    by j false = h.taken j

pub take_leads : (W : ℕ → Bool) (line : ℕ → ℕ) → Ends line → (s : ℕ) → W s ≡ true → Leads W (put W s false) (take_away line s)
take_leads W line k s e m ls h = record {
  told = taking line k s m ls (ltb-true 0 (m.number s) (h.taken s ∙ e)) h.told;
  taken = λ j. by j (eqb j s);
}
  where
    by : (j : ℕ) (b : Bool) → ltb 0 (cond b 0 (m.number j)) ≡ cond b false (W j)
    by j true = le-ltb 0 0 (omega arith)
    by j false = h.taken j

pub then_leads : (W V U : ℕ → Bool) (f g : Hall → Out) → Leads W V f → Leads V U g → Leads W U (then f g)
then_leads W V U f g p q m ls h =
    subst (λ (xs : List ℕ). Good U (ledger (g (f m).hall).hall xs)) (append_assoc ls (f m).lines (g (f m).hall).lines) (q (f m).hall (ls ++ (f m).lines) (p m ls h))

-- each of a list takes or empties its slot
pub each_leads : (v : Bool) (place : ℕ → ℕ) (f : ℕ → Hall → Out) → ((d : ℕ) (W : ℕ → Bool) → W (place d) ≡ not v → Leads W (put W (place d) v) (f d)) →
    (ds : List ℕ) (W : ℕ → Bool) → Ready v (map place ds) W → Leads W (set_all v (map place ds) W) (each f ds)
each_leads v place f p [] W r m ls h = quiet_leads W m ls h
each_leads v place f p (d ∷ ds) W r m ls h = then_leads W (put W (place d) v) (set_all v (map place ds) (put W (place d) v)) (f d) (each f ds) (p d W r.0) (each_leads v place f p ds (put W (place d) v) r.1) m ls h

ready_append : (v : Bool) (xs ys : List ℕ) (W : ℕ → Bool) → Ready v (xs ++ ys) W → Ready v xs W × Ready v ys (set_all v xs W)
ready_append v [] ys W r = (tt, r)
ready_append v (x ∷ xs) ys W r = let h = ready_append v xs ys (put W x v) r.1 in ((r.0, h.0), h.1)

set_append : (v : Bool) (xs ys : List ℕ) (W : ℕ → Bool) → set_all v (xs ++ ys) W ≡ set_all v ys (set_all v xs W)
set_append v [] ys W = refl
set_append v (x ∷ xs) ys W = set_append v xs ys (put W x v)

-- on the three axes, then the leg's slot
axes_leads : (v : Bool) (c : ℕ) (ds : List ℕ) (f : Axis → ℕ → Hall → Out) (g : Hall → Out) →
    ((a : Axis) (d : ℕ) (W : ℕ → Bool) → W (slot a c d) ≡ not v → Leads W (put W (slot a c d) v) (f a d)) →
    ((W : ℕ → Bool) → W (leg_slot c) ≡ not v → Leads W (put W (leg_slot c) v) g) →
    (W : ℕ → Bool) → Ready v (craft_slots c ds) W → Leads W (set_all v (craft_slots c ds) W) (then (on_axes (λ a. each (f a) ds)) g)
axes_leads v c ds f g p q W r m ls h =
    let r0 = ready_append v (axis_slots c ds X) (axis_slots c ds Y ++ (axis_slots c ds Z ++ (leg_slot c ∷ []))) W r in
    let W1 = set_all v (axis_slots c ds X) W in
    let r1 = ready_append v (axis_slots c ds Y) (axis_slots c ds Z ++ (leg_slot c ∷ [])) W1 r0.1 in
    let W2 = set_all v (axis_slots c ds Y) W1 in
    let r2 = ready_append v (axis_slots c ds Z) (leg_slot c ∷ []) W2 r1.1 in
    let W3 = set_all v (axis_slots c ds Z) W2 in
    let all : set_all v (craft_slots c ds) W ≡ put W3 (leg_slot c) v =
    set_append v (axis_slots c ds X) (axis_slots c ds Y ++ (axis_slots c ds Z ++ (leg_slot c ∷ []))) W
    ∙ set_append v (axis_slots c ds Y) (axis_slots c ds Z ++ (leg_slot c ∷ [])) W1
    ∙ set_append v (axis_slots c ds Z) (leg_slot c ∷ []) W2 in
    subst (λ (U : ℕ → Bool). Good U (ledger (then (on_axes (λ a. each (f a) ds)) g m).hall (ls ++ (then (on_axes (λ a. each (f a) ds)) g m).lines))) (sym all)
    (then_leads W W3 (put W3 (leg_slot c) v) (on_axes (λ a. each (f a) ds)) g
    (then_leads W W1 W3 (each (f X) ds) (then (each (f Y) ds) (each (f Z) ds)) (each_leads v (slot X c) (f X) (p X) ds W r0.0)
    (then_leads W1 W2 W3 (each (f Y) ds) (each (f Z) ds) (each_leads v (slot Y c) (f Y) (p Y) ds W1 r1.0) (each_leads v (slot Z c) (f Z) (p Z) ds W2 r2.0)))
    (q W3 r2.1.0) m ls h)

enter_bit_leads : (k : Stamp) (c : ℕ) (a : Axis) (d : ℕ) (W : ℕ → Bool) → W (slot a c d) ≡ false → Leads W (put W (slot a c d) true) (enter_bit a c k d)
enter_bit_leads k c a d W e m ls h = grant_leads W (slot a c d) _ e (read_bit a c d k m) ls h

grant_bit_leads : (k : Stamp) (c : ℕ) (a : Axis) (d : ℕ) (W : ℕ → Bool) → W (slot a c d) ≡ false → Leads W (put W (slot a c d) true) (λ m. grant_bit a c d k m)
grant_bit_leads k c a d W e m ls h = grant_leads W (slot a c d) _ e m ls h

drop_bit_leads : (c : ℕ) (a : Axis) (d : ℕ) (W : ℕ → Bool) → W (slot a c d) ≡ true → Leads W (put W (slot a c d) false) (drop_bit a c d)
drop_bit_leads c a d W e = then_leads W (put W (slot a c d) false) (put W (slot a c d) false) (take_away withdrawn (slot a c d)) (λ h. silent (with_bit (slot a c d) false h))
    (take_leads W withdrawn (inr refl) (slot a c d) e) (λ m ls h. quiet_leads (put W (slot a c d) false) m ls h)

grant_leg_leads : (k : Stamp) (c : ℕ) (W : ℕ → Bool) → W (leg_slot c) ≡ false → Leads W (put W (leg_slot c) true) (grant_leg c k)
grant_leg_leads k c W e m ls h = grant_leads W (leg_slot c) _ e m ls h

pub enter_good : (E : ℕ → Bool) (c : ℕ) (b : Box) (k : Stamp) (m : Hall) (ls : List ℕ) → Around E c (others c m) → E c ≡ false →
    Good (wanted E) (ledger m ls) → Good (wanted (put E c true)) (ledger (enter c b k m).hall (ls ++ (enter c b k m).lines))
enter_good E c b k m ls o e h =
    good_same (set_all true (craft_slots c (others c m)) (wanted E)) (wanted (put E c true)) (moved E c (others c m) o true) _
    (axes_leads true c (others c m) (λ a. enter_bit a c k) (grant_leg c k) (enter_bit_leads k c) (grant_leg_leads k c) (wanted E)
    (ready true (craft_slots c (others c m)) (wanted E) (own_slots E c (others c m) o E o.entered false e) (craft_apart c (others c m) o.others))
    (read_leg c b k m) ls h)

leave_leg_leads : (c : ℕ) (W : ℕ → Bool) → W (leg_slot c) ≡ true → Leads W (put W (leg_slot c) false) (then (take_away withdrawn (leg_slot c)) (λ h. silent (with_craft c None h)))
leave_leg_leads c W e = then_leads W (put W (leg_slot c) false) (put W (leg_slot c) false) (take_away withdrawn (leg_slot c)) (λ h. silent (with_craft c None h))
    (take_leads W withdrawn (inr refl) (leg_slot c) e) (λ m ls h. quiet_leads (put W (leg_slot c) false) m ls h)

pub leave_good : (E : ℕ → Bool) (c : ℕ) (m : Hall) (ls : List ℕ) → Around E c (others c m) → E c ≡ true →
    Good (wanted E) (ledger m ls) → Good (wanted (put E c false)) (ledger (leave c m).hall (ls ++ (leave c m).lines))
leave_good E c m ls o e h =
    good_same (set_all false (craft_slots c (others c m)) (wanted E)) (wanted (put E c false)) (moved E c (others c m) o false) _
    (axes_leads false c (others c m) (λ a. drop_bit a c) (then (take_away withdrawn (leg_slot c)) (λ k. silent (with_craft c None k))) (drop_bit_leads c) (leave_leg_leads c) (wanted E)
    (ready false (craft_slots c (others c m)) (wanted E) (own_slots E c (others c m) o E o.entered true e) (craft_apart c (others c m) o.others))
    m ls h)

-- on an axis, what is withdrawn is granted anew
renew_leads : (c : ℕ) (ds : List ℕ) → Others c ds → (k : Stamp) (a : Axis) (W : ℕ → Bool) → ((d : ℕ) → d ∈ ds → W (slot a c d) ≡ true) → Leads W W (renew c ds k a)
renew_leads c ds o k a W full m ls h =
    good_same (set_all true ss V) W same _
    (then_leads W V (set_all true ss V) (each (λ d. take_away withdrawn (slot a c d)) ds) (each (λ d. grant_bit a c d k) ds)
    (each_leads false (slot a c) (λ d. take_away withdrawn (slot a c d)) (λ d U e. take_leads U withdrawn (inr refl) (slot a c d) e) ds W (ready false ss W in_full (axis_apart c ds o a)))
    (each_leads true (slot a c) (λ d. grant_bit a c d k) (grant_bit_leads k c a) ds V (ready true ss V in_empty (axis_apart c ds o a)))
    m ls h)
  where
    ss : List ℕ
    ss = axis_slots c ds a

    V : ℕ → Bool
    V = set_all false (axis_slots c ds a) W

    in_full : (s : ℕ) → s ∈ axis_slots c ds a → W s ≡ true
    in_full s e = let w = in_axis c ds o a s e in subst (λ (t : ℕ). W t ≡ true) w.2 (full w.0 w.1)

    in_empty : (s : ℕ) → s ∈ axis_slots c ds a → set_all false (axis_slots c ds a) W s ≡ false
    in_empty s e = by (settled false (axis_slots c ds a) W s)
      where
        by : ((s ∈ axis_slots c ds a) × (set_all false (axis_slots c ds a) W s ≡ false)) ⊎ ((s ∈ axis_slots c ds a → ⊥) × (set_all false (axis_slots c ds a) W s ≡ W s)) → set_all false (axis_slots c ds a) W s ≡ false
        by (inl g) = g.1
        by (inr g) = absurd (g.0 e)

    same : (s : ℕ) → set_all true (axis_slots c ds a) (set_all false (axis_slots c ds a) W) s ≡ W s
    same s = by (settled true (axis_slots c ds a) (set_all false (axis_slots c ds a) W) s) (settled false (axis_slots c ds a) W s)
      where
        by : ((s ∈ axis_slots c ds a) × (set_all true (axis_slots c ds a) (set_all false (axis_slots c ds a) W) s ≡ true)) ⊎ ((s ∈ axis_slots c ds a → ⊥) × (set_all true (axis_slots c ds a) (set_all false (axis_slots c ds a) W) s ≡ set_all false (axis_slots c ds a) W s)) →
            ((s ∈ axis_slots c ds a) × (set_all false (axis_slots c ds a) W s ≡ false)) ⊎ ((s ∈ axis_slots c ds a → ⊥) × (set_all false (axis_slots c ds a) W s ≡ W s)) → set_all true (axis_slots c ds a) (set_all false (axis_slots c ds a) W) s ≡ W s
        by (inl g) q = g.1 ∙ sym (in_full s g.0)
        by (inr g) (inl q) = absurd (g.0 q.0)
        by (inr g) (inr q) = g.1 ∙ q.1

-- a slot emptied and taken again is as it was
again : (W : ℕ → Bool) (s t : ℕ) → t ≡ s → W s ≡ true → (j : ℕ) → put (put W s false) t true j ≡ W j
again W s t e w j = by (same_or_not j s)
  where
    by : (j ≡ s) ⊎ (j ≡ s → ⊥) → put (put W s false) t true j ≡ W j
    by (inl q) = ap (λ (x : ℕ). put (put W s false) t true x) (q ∙ sym e) ∙ put_here (put W s false) t true ∙ sym w ∙ ap W (sym q)
    by (inr q) = put_other (put W s false) t true j (λ r. q (r ∙ e)) ∙ put_other W s false j q

pub fire_bit_good : (W : ℕ → Bool) (s : ℕ) (k : Stamp) → s < 12288 → lower_of s ≤ higher_of s → W s ≡ true → Leads W W (then (take_away fired s) (fire_bit s k))
fire_bit_good W s k p q e m ls h =
    good_same (put (put W s false) t true) W (again W s t (slot_named s p q) e) _
    (then_leads W (put W s false) (put (put W s false) t true) (take_away fired s) (fire_bit s k)
    (take_leads W fired (inl refl) s e)
    (λ n xs g. grant_leads (put W s false) t _ (ap (put W s false) (slot_named s p q) ∙ put_here W s false) (with_bit s (not (n.bit s)) n) xs g)
    m ls h)
  where
    t : ℕ
    t = slot (axis_of s) (lower_of s) (higher_of s)

-- a leg's firing, on a hall from which its fired certificate is already taken
anew_leads : (c : ℕ) (ds : List ℕ) (k : Stamp) → Others c ds → (W : ℕ → Bool) → ((a : Axis) (d : ℕ) → d ∈ ds → W (slot a c d) ≡ true) → W (leg_slot c) ≡ false →
    Leads W (put W (leg_slot c) true) (then (on_axes (renew c ds k)) (grant_leg c k))
anew_leads c ds k o W full e =
    then_leads W W (put W (leg_slot c) true) (on_axes (renew c ds k)) (grant_leg c k)
    (then_leads W W W (renew c ds k X) (then (renew c ds k Y) (renew c ds k Z)) (renew_leads c ds o k X W (full X))
    (then_leads W W W (renew c ds k Y) (renew c ds k Z) (renew_leads c ds o k Y W (full Y)) (renew_leads c ds o k Z W (full Z))))
    (grant_leg_leads k c W e)

pub fire_leg_good : (E : ℕ → Bool) (c : ℕ) (k : Stamp) (m : Hall) (ls : List ℕ) → Around E c (others c m) → E c ≡ true →
    Good (wanted E) (ledger m ls) → let o = then (take_away fired (leg_slot c)) (fire_leg c k) m in Good (wanted E) (ledger o.hall (ls ++ o.lines))
fire_leg_good E c k m ls o e h =
    good_same (put V (leg_slot c) true) (wanted E) (again (wanted E) (leg_slot c) (leg_slot c) refl leg_full) _
    (subst (λ (xs : List ℕ). Good (put V (leg_slot c) true) (ledger (fire_leg c k gone.hall).hall xs)) (append_assoc ls gone.lines (fire_leg c k gone.hall).lines)
    (anew_leads c (others c m) k o.others V in_full (put_here (wanted E) (leg_slot c) false)
    (read_leg c (craft_of c m).box k gone.hall) (ls ++ gone.lines)
    (take_leads (wanted E) fired (inl refl) (leg_slot c) leg_full m ls h)))
  where
    gone : Out
    gone = take_away fired (leg_slot c) m

    leg_full : wanted E (leg_slot c) ≡ true
    leg_full = leg_wanted E c ∙ e

    V : ℕ → Bool
    V = put (wanted E) (leg_slot c) false

    in_full : (a : Axis) (d : ℕ) → d ∈ others c m → put (wanted E) (leg_slot c) false (slot a c d) ≡ true
    in_full a d g =
        let p = o.others.range d g in
        let q = slot_pair a c d o.others.self p in
        put_other (wanted E) (leg_slot c) false (slot a c d) (λ r. omega arith) ∙ pair_wanted E a c d o.others.self p (o.others.not_self d g) e (o.entered d g)
