-- Touching: at a quiet clock the question and the list tell which boxes touch.
use Rattle.std.proofs.Common.{◌≡◌, ℕ, ◌+◌, ◌*◌, ◌<◌, ◌≤◌, Bool, true, not, ◌&&◌, ◌||◌, eqb, ltb, ◌⊎◌, ◌↔◌, List, [], ◌∷◌, ◌++◌, map, is_some, Some, None, Decides, Option, sym, refl, ◌∙◌, subst, inl, inr, arith}
use mathlib.Core.List.Memᴰ
use Rattle.std.proofs.lemmas.Bool.{and_parts, and_from, not-false, eqb-false, ltb-true, lt-ltb}
use Rattle.rules.specs.Basics.{◌∈◌, those, joined, InTurn}
use Rattle.rules.specs.Fractions.{Fraction, Usual}
use Rattle.rules.specs.Paths.{X, Y, Z, Path}
use Rattle.rules.specs.Books.{Book, path, Lawful, out_of_range}
use Rattle.rules.specs.Boxes.{Box, Touch}
use Rattle.model.specs.Halls.{quiet, Craft, Hall, State, opened, all_craft, in_hall, entered, together}
use Rattle.model.specs.Calls.{Call, touching, listing, done, touches, accepted}
use Rattle.model.specs.Refusals.{pairs_of, pairs, refusal}
use Rattle.model.specs.Performing.{unless}
use Rattle.model.specs.Histories.{after, changes, book_changes, book_now, boxes_now, clock_now}
use Rattle.model.specs.Statement.{story, next_answer, TouchAt, Touching}
use Rattle.events.specs.Machine.{Sky, Rested}
use Rattle.events.specs.Reports.{ReportsHold, BitsTell}
use Rattle.events.specs.Changes.{ChangesRest}
use Rattle.accounts.proofs.Agrees.{histories_agree}
use Rattle.accounts.proofs.Puts.{those_in, in_those, turn_append, turn_those, turn_map, turn_below}
use Rattle.accounts.proofs.Frames.{craft_below, below_craft}
use Rattle.telling.proofs.Places.{slot_swap, in_order}
use Rattle.certified.specs.Histories.{sky_of, core_of}
use Rattle.accounts.specs.Laws.{box_in}
use Rattle.telling.proofs.Skies.{usual_inside}
use Rattle.telling.proofs.Resting.{Resting, PathsStay}
use Rattle.telling.proofs.Ways.{fit_none}
use Rattle.telling.proofs.History.{Inv, inv_rests, inv_calls, inv_opened}

-- ---- small facts
pub some_box : (o : Option Craft) → is_some o ≡ true → (k : Box) × (box_in o ≡ Some k)
some_box None e = let z : ◌≡◌ {A = ℕ} 0 1 = cc in absurd (omega arith)
some_box (Some x) e = (x.box, refl)

box_some : (o : Option Craft) (k : Box) → box_in o ≡ Some k → is_some o ≡ true
box_some None k e = let z : ◌≡◌ {A = ℕ} 0 1 = cc in absurd (omega arith)
box_some (Some x) k e = refl

touch_swap : (p : Path) (k : Box) (q : Path) (l : Box) (t : Fraction) → Touch p k q l t → Touch q l p k t
touch_swap p k q l t h a = ((h a).1, (h a).0)

together_swap : (m : Hall) (c d : ℕ) → together c d m ≡ together d c m
together_swap m c d = λ i. m.bit (slot_swap X c d i) && m.bit (slot_swap Y c d i) && m.bit (slot_swap Z c d i)

said : (x y : Bool) → accepted (touches x) ≡ accepted (touches y) → x ≡ y
said x y e = cc

-- ---- the list of pairs
joined_out : (f : ℕ → List ℕ) (cs : List ℕ) (x : ℕ) → x ∈ joined (map f cs) → (c : ℕ) × (c ∈ cs) × (x ∈ f c)
joined_out f [] x e = absurd (Memᴰ.not-nil e)
joined_out f (c ∷ cs) x e = by (Memᴰ.append_cases (f c) e) (λ g. joined_out f cs x g)
  where
    by : (x ∈ f c) ⊎ (x ∈ joined (map f cs)) → (x ∈ joined (map f cs) → (d : ℕ) × (d ∈ cs) × (x ∈ f d)) → (d : ℕ) × (d ∈ (c ∷ cs)) × (x ∈ f d)
    by (inl g) go = (c, Memᴰ.head refl, g)
    by (inr g) go = let z = go g in (z.0, Memᴰ.tail z.1, z.2)

joined_in : (f : ℕ → List ℕ) (cs : List ℕ) (c x : ℕ) → c ∈ cs → x ∈ f c → x ∈ joined (map f cs)
joined_in f [] c x e g = absurd (Memᴰ.not-nil e)
joined_in f (d ∷ cs) c x e g = by (Memᴰ.cases_cons e) (λ h. joined_in f cs c x h g)
  where
    by : (c ≡ d) ⊎ (c ∈ cs) → (c ∈ cs → x ∈ joined (map f cs)) → x ∈ (f d ++ joined (map f cs))
    by (inl h) go = Memᴰ.append_left (joined (map f cs)) (subst (λ (e : ℕ). x ∈ f e) h g)
    by (inr h) go = Memᴰ.append_right (f d) (go h)

joined_turn : (f : ℕ → List ℕ) → ((c : ℕ) → InTurn (λ (x y : ℕ). x < y) (f c)) → ((c d x y : ℕ) → c < d → x ∈ f c → y ∈ f d → x < y) → (cs : List ℕ) → InTurn (λ (x y : ℕ). x < y) cs → InTurn (λ (x y : ℕ). x < y) (joined (map f cs))
joined_turn f h r [] t = tt
joined_turn f h r (c ∷ cs) t = turn_append (λ (x y : ℕ). x < y) (f c) (joined (map f cs)) (h c) (joined_turn f h r cs t.1) (λ x y p q. let z = joined_out f cs y q in r c z.0 x y (t.0 z.0 z.1) p z.2)

craft_turn : InTurn (λ (x y : ℕ). x < y) all_craft
unfolding all_craft
craft_turn = turn_below 64

module _ (m : Hall) where
  -- c and d are entered, and together by their bits
  pub record Close (c d : ℕ) : Type 0 where
    pub order : c < d
    pub first : in_hall m c ≡ true
    pub second : in_hall m d ≡ true
    pub bits : together c d m ≡ true

  abbrev close : ℕ → ℕ → Bool
  close c d = ltb c d && in_hall m d && together c d m

  row_out : (c x : ℕ) → x ∈ pairs_of m c → (d : ℕ) × (d < 64) × (x ≡ c * 64 + d) × (close c d ≡ true)
  row_out c x e =
      let z = Memᴰ.of_map (λ d. c * 64 + d) (those (close c) all_craft) e in
      let y = those_in (close c) all_craft z.0 z.1 in
      (z.0, craft_below z.0 y.0, sym z.2, y.1)

  row_turn : (c : ℕ) → InTurn (λ (x y : ℕ). x < y) (pairs_of m c)
  row_turn c = turn_map (λ (x y : ℕ). x < y) (λ (x y : ℕ). x < y) (λ d. c * 64 + d) (those (close c) all_craft) (λ x y p q h. omega arith) (turn_those (λ (x y : ℕ). x < y) (close c) all_craft craft_turn)

  pub pairs_turn : InTurn (λ (x y : ℕ). x < y) (pairs m)
  pairs_turn = joined_turn (pairs_of m) row_turn
      (λ c d x y h p q. let a = row_out c x p in let b = row_out d y q in omega (arith, h, a.1, a.2, b.2)) (entered m) (turn_those (λ (x y : ℕ). x < y) (in_hall m) all_craft craft_turn)

  pub pairs_out : (x : ℕ) → x ∈ pairs m → (c : ℕ) × (d : ℕ) × (x ≡ c * 64 + d) × Close c d
  pairs_out x e =
      let z = joined_out (pairs_of m) (entered m) x e in
      let y = row_out z.0 x z.2 in
      let p = and_parts (ltb z.0 y.0 && in_hall m y.0) (together z.0 y.0 m) y.3 in
      let q = and_parts (ltb z.0 y.0) (in_hall m y.0) p.0 in
      (z.0, y.0, y.2, record { order = ltb-true z.0 y.0 q.0; first = (those_in (in_hall m) all_craft z.0 z.1).1; second = q.1; bits = p.1 })

  pub pairs_in : (c d : ℕ) → c < 64 → d < 64 → Close c d → c * 64 + d ∈ pairs m
  pairs_in c d hc hd z =
      joined_in (pairs_of m) (entered m) c (c * 64 + d) (in_those (in_hall m) all_craft c (below_craft c hc) z.first)
      (Memᴰ.map (λ d. c * 64 + d) (in_those (close c) all_craft d (below_craft d hd) (and_from (ltb c d && in_hall m d) (together c d m) (and_from (ltb c d) (in_hall m d) (lt-ltb c d z.order) z.second) z.bits)))

module _ (hold : ReportsHold) (bits : BitsTell) (rest : ChangesRest) (stay : PathsStay) (b : Book) (lawful : Lawful b) (small : b.scale ≤ 8) (calls : List Call) where
  abbrev pub now : State
  now = after calls (opened b)

  abbrev pub told_sky : Sky
  told_sky = record { box = boxes_now (changes (story b calls)); path = λ c. path (book_now b (changes (story b calls))) c }

  pub inv : Inv b.scale small hold now
  inv = inv_calls b.scale small hold rest stay calls (opened b) (inv_opened b.scale small hold b lawful.paths)

  pub sky_is : sky_of now.hall ≡ told_sky
  sky_is = λ i. record { box = sym (histories_agree b calls).boxes i; path = λ c. path (sym (histories_agree b calls).book i) c }

  pub at_rest : (t : Fraction) → clock_now (story b calls) ≡ quiet t → Usual t × Resting b.scale small t now.hall
  at_rest t e = inv_rests b.scale small hold now inv t (sym (histories_agree b calls).clock ∙ e)

  module _ (t : Fraction) (ct : clock_now (story b calls) ≡ quiet t) where
    decides : (c d : ℕ) (k l : Box) → c < d → boxes_now (changes (story b calls)) c ≡ Some k → boxes_now (changes (story b calls)) d ≡ Some l →
        Decides (together c d now.hall) (Touch (told_sky.path c) k (told_sky.path d) l t)
    decides c d k l h p q =
        let r = at_rest t ct in
        bits b.scale told_sky (λ c. lawful.paths (book_changes (changes (story b calls))) c) t r.0.proper (usual_inside t r.0) (core_of now.hall) (subst (λ (y : Sky). Rested y t (core_of now.hall)) sky_is r.1.rested) c d k l h p q

    box_now : (c : ℕ) → in_hall now.hall c ≡ true → (k : Box) × (boxes_now (changes (story b calls)) c ≡ Some k)
    box_now c f = let z = some_box (now.hall.craft c) f in (z.0, (λ i. (histories_agree b calls).boxes i c) ∙ z.1)

    in_now : (c : ℕ) (k : Box) → boxes_now (changes (story b calls)) c ≡ Some k → in_hall now.hall c ≡ true
    in_now c k e = box_some (now.hall.craft c) k ((λ i. sym (histories_agree b calls).boxes i c) ∙ e)

    low_now : (c : ℕ) → in_hall now.hall c ≡ true → c < 64
    low_now c f = (at_rest t ct).1.good.low c f

    told : (c d : ℕ) → c < d → in_hall now.hall c ≡ true → in_hall now.hall d ≡ true → together c d now.hall ≡ true → TouchAt b calls t c d
    told c d h fc fd e = let k = box_now c fc in let l = box_now d fd in (k.0, l.0, k.1, l.1, (decides c d k.0 l.0 h k.1 l.1).0 e)

    untold : (c d : ℕ) → c < d → TouchAt b calls t c d → together c d now.hall ≡ true
    untold c d h z = (decides c d z.0 z.1 h z.2 z.3).1 z.4

    swap : (c d : ℕ) → TouchAt b calls t c d → TouchAt b calls t d c
    swap c d z = (z.1, z.0, z.3, z.2, touch_swap (told_sky.path c) z.0 (told_sky.path d) z.1 t z.4)

    asked_by : (c d : ℕ) → (c < d) ⊎ (d < c) → in_hall now.hall c ≡ true → in_hall now.hall d ≡ true → (together c d now.hall ≡ true) ↔ TouchAt b calls t c d
    asked_by c d (inl h) fc fd = (λ e. told c d h fc fd e, λ z. untold c d h z)
    asked_by c d (inr h) fc fd = (λ e. swap d c (told d c h fd fc (together_swap now.hall d c ∙ e)), λ z. together_swap now.hall c d ∙ untold d c h (swap c d z))

    pub asked : (c d : ℕ) (tells : Bool) → (next_answer b calls (touching t c d)).result ≡ accepted (touches tells) → (tells ≡ true) ↔ TouchAt b calls t c d
    asked c d tells e = by (refusal (touching t c d) now) refl e
      where
        by : (o : Option ℕ) → refusal (touching t c d) now ≡ o → (unless o (touching t c d) now).answer.result ≡ accepted (touches tells) → (tells ≡ true) ↔ TouchAt b calls t c d
        by (Some n) r e = let z : ◌≡◌ {A = ℕ} 0 1 = cc in absurd (omega arith)
        by None r e =
            let p = fit_none _ _ _ r in
            let q = fit_none (out_of_range c || out_of_range d) 2 _ p.1 in
            let u = fit_none (eqb c d) 3 _ q.1 in
            let v = fit_none (not (in_hall now.hall c && in_hall now.hall d)) 5 None u.1 in
            let f = and_parts (in_hall now.hall c) (in_hall now.hall d) (not-false (in_hall now.hall c && in_hall now.hall d) v.0) in
            subst (λ (x : Bool). (x ≡ true) ↔ TouchAt b calls t c d) (said (together c d now.hall) tells e) (asked_by c d (in_order c d (eqb-false c d u.0)) f.0 f.1)

    abbrev Listed : List ℕ → Type 0
    Listed list = InTurn (λ (x y : ℕ). x < y) list × ((x : ℕ) → (x ∈ list) ↔ ((c : ℕ) × (d : ℕ) × (c < d) × (x ≡ c * 64 + d) × TouchAt b calls t c d))

    pub listed : (room : ℕ) → (next_answer b calls (listing t room)).result ≡ accepted done → Listed (next_answer b calls (listing t room)).list
    listed room e = by (refusal (listing t room) now) refl e
      where
        by : (o : Option ℕ) → refusal (listing t room) now ≡ o → (unless o (listing t room) now).answer.result ≡ accepted done → Listed (unless o (listing t room) now).answer.list
        by (Some n) r e = let z : ◌≡◌ {A = ℕ} 0 1 = cc in absurd (omega arith)
        by None r e = (pairs_turn now.hall, λ x. (λ p. out x p, λ q. back x q))
          where
            out : (x : ℕ) → x ∈ pairs now.hall → (c : ℕ) × (d : ℕ) × (c < d) × (x ≡ c * 64 + d) × TouchAt b calls t c d
            out x p = let z = pairs_out now.hall x p in (z.0, z.1, z.3.order, z.2, told z.0 z.1 z.3.order z.3.first z.3.second z.3.bits)

            back : (x : ℕ) → (c : ℕ) × (d : ℕ) × (c < d) × (x ≡ c * 64 + d) × TouchAt b calls t c d → x ∈ pairs now.hall
            back x q =
                let fc = in_now q.0 q.4.0 q.4.2 in
                let fd = in_now q.1 q.4.1 q.4.3 in
                subst (λ (y : ℕ). y ∈ pairs now.hall) (sym q.3)
                (pairs_in now.hall q.0 q.1 (low_now q.0 fc) (low_now q.1 fd) (record { order = q.2; first = fc; second = fd; bits = untold q.0 q.1 q.2 q.4 }))

  pub touching_holds : Touching b calls
  touching_holds = record { asked = asked; listed = listed }
