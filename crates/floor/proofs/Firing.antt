-- Entering, leaving and firing, with what the code did on the way.
use Rattle.std.proofs.Common.{◌≡◌, ℕ, ◌-◌, ◌<◌, ◌≤◌, Bool, cond, ltb, List, [], Some, None, Ok, Err, Option, sym, ap, ◌∙◌, subst, ap₂, add-zero, arith, le-ltb, lt-ltb, MatchOption}
use borrow.Author.Tests.{lt-leb}
use Rattle.rules.specs.Basics.{the}
use Rattle.rules.specs.Fractions.{Fraction}
use Rattle.rules.specs.Stamps.{Stamp}
use Rattle.rules.specs.Paths.{Axis, Line, leg}
use Rattle.rules.specs.Books.{Book, Lawful, path, break_after}
use Rattle.rules.specs.Boxes.{Box}
use Rattle.rules.specs.Slots.{Queue, leg_slot}
use Rattle.plans.specs.declared.answer.LegAnswer.{LegAnswer}
use Rattle.plans.specs.Routes.{answer_of, leg_asked}
use Rattle.plans.specs.Laws.{LeastAfter}
use Rattle.plans.proofs.Breaks.{first_after_least}
use Rattle.books.specs.Told.{leg_answer}
use Rattle.model.specs.Halls.{Craft, Hall, with_craft, others}
use Rattle.model.specs.Moves.{silent, then, on_axes, withdrawn, fired, take_away, read_leg, at_break, grant, enter, leave, fire_bit, fire_leg, fire_kind, fire, craft_of, nobody}
use Rattle.tables.specs.Crafts.{with_legs, turned}
use Rattle.tables.specs.Tables.{Table, put_craft}
use Rattle.floor_laws.specs.Writing.{Move, Wrote, Fits}
use Rattle.floor_laws.specs.Reading.{enters, drops, renews}
use Rattle.floor_laws.proofs.Writes.{wrote_as, fits_as, wrote_then, fits_second, first_room, written_none}
use Rattle.floor_laws.proofs.Legs.{enters_leaves, renews_leaves, reading_is, then_both}
use Rattle.floor.specs.Of.{joined, read_then}

abbrev Asked : Type 0
Asked = (Axis → Line) × Option ℕ

-- what the book told of a craft that there is
module _ (b : Book) (c : ℕ) (t : Fraction) (h : c < 64) where
  answer_is : leg_answer b c t ≡ Ok (leg_asked (path b c) t)
  answer_is = ap (λ (x : Bool). cond x (Err 2) (Ok (leg_asked (path b c) t))) (lt-leb 64 c h)

  module _ (legs : LegAnswer) (e : Ok (answer_of legs) ≡ leg_answer b c t) where
    leg_is : answer_of legs ≡ leg_asked (path b c) t
    leg_is = let f = e ∙ answer_is in cc

    pub leg_lines : (answer_of legs).0 ≡ leg (path b c) t
    leg_lines = ap (λ (x : Asked). x.0) leg_is

    pub leg_next : legs.next ≡ break_after b c t
    leg_next = ap (λ (x : Asked). x.1) leg_is

-- a break lies at most at 50,000
pub break_soon : (b : Book) (c : ℕ) (t : Fraction) (next : Option ℕ) → Lawful b → next ≡ break_after b c t → MatchOption next (0 ≤ 0) (λ i. i ≤ 50000)
break_soon b c t next l e = go next (subst (λ (o : Option ℕ). LeastAfter t (path b c).breaks o) (sym e) (first_after_least t (path b c).breaks))
  where
    go : (o : Option ℕ) → LeastAfter t (path b c).breaks o → MatchOption o (0 ≤ 0) (λ i. i ≤ 50000)
    go None x = omega arith
    go (Some i) x = (l.paths [] c).ends i x.0

-- the craft's record is read
module _ (b : Book) (q : Queue) (t t' : Table) (c : ℕ) (k : Stamp) (box : Box) (legs : Axis → Line) (f : legs ≡ leg (path b c) k.time) where
  pub read_entering : (r : Craft) → r ≡ with_legs box legs → t' ≡ put_craft c (Some r) t → joined b q t' ≡ read_leg c box k (joined b q t)
  read_entering r e g = ap (joined b q) (g ∙ ap (λ (x : Craft). put_craft c (Some x) t) (e ∙ ap (with_legs box) f))

  pub read_firing : box ≡ (the nobody (t.craft c)).box → t' ≡ put_craft c (turned legs (t.craft c)) t → joined b q t' ≡ read_leg c box k (joined b q t)
  read_firing e g = ap (joined b q) (g ∙ ap₂ (λ (x : Box) (l : Axis → Line). put_craft c (Some (with_legs x l)) t) (sym e) f)

-- the axes, then the leg certificate
module _ (F : Axis → List ℕ → Move) (c : ℕ) (o : Option Stamp) (n : ℕ) (m : Hall) (s : List ℕ) (x : Fits (read_then F c o) n m s) where
  abbrev axes : Move
  axes = on_axes (λ a. F a (others c m))

  module _ (slot : ℕ) (e : slot ≡ leg_slot c) (m₁ : Hall) (s₁ : List ℕ) (r₁ : ℕ) (w : Wrote axes n m m₁ s s₁ r₁) where
    pub read_wrote : (m₂ : Hall) (s₂ : List ℕ) (r₂ : ℕ) → Wrote (grant slot o) r₁ m₁ m₂ s₁ s₂ r₂ → Wrote (read_then F c o) n m m₂ s s₂ r₂
    read_wrote m₂ s₂ r₂ v =
        let u = then_both axes (leg_slot c) o n m s (record { room = x.room; numbers = x.numbers }) m₁ m₂ s₁ s₂ r₁ r₂ w (subst (λ (z : ℕ). Wrote (grant z o) r₁ m₁ m₂ s₁ s₂ r₂) e v) in
        record { hall = u.hall; slip = u.slip; count = u.count }

module _ (c n : ℕ) (b : Box) (k : Stamp) (next : Option ℕ) (o : Option Stamp) (h : o ≡ at_break next) (m m₁ : Hall) (s : List ℕ) (e : m₁ ≡ read_leg c b k m) (f : next ≡ break_after m.book c k.time) where
  enter_is : enter c b k m ≡ read_then (enters c k) c o m₁
  enter_is = reading_is (enters c k) (enters_leaves c k) c b k next m m₁ e f ∙ ap (λ (z : Option Stamp). read_then (enters c k) c z m₁) (sym h)

  pub enter_fits : Fits (enter c b k) n m s → Fits (read_then (enters c k) c o) n m₁ s
  enter_fits x = fits_as (enter c b k) (read_then (enters c k) c o) n m m₁ s enter_is x

  pub enter_wrote : (m' : Hall) (s' : List ℕ) (r : ℕ) → Wrote (read_then (enters c k) c o) n m₁ m' s s' r → Wrote (enter c b k) n m m' s s' r
  enter_wrote m' s' r w = wrote_as (enter c b k) (read_then (enters c k) c o) n m m₁ m' s s' r enter_is w

module _ (c n : ℕ) (k : Stamp) (next : Option ℕ) (o : Option Stamp) (h : o ≡ at_break next) (m m₁ : Hall) (s : List ℕ) (e : m₁ ≡ read_leg c (craft_of c m).box k m) (f : next ≡ break_after m.book c k.time) where
  fire_leg_is : fire_leg c k m ≡ read_then (renews c k) c o m₁
  fire_leg_is = reading_is (renews c k) (renews_leaves c k) c (craft_of c m).box k next m m₁ e f ∙ ap (λ (z : Option Stamp). read_then (renews c k) c z m₁) (sym h)

  pub leg_fits : Fits (fire_leg c k) n m s → Fits (read_then (renews c k) c o) n m₁ s
  leg_fits x = fits_as (fire_leg c k) (read_then (renews c k) c o) n m m₁ s fire_leg_is x

  pub leg_wrote : (m' : Hall) (s' : List ℕ) (r : ℕ) → Wrote (read_then (renews c k) c o) n m₁ m' s s' r → Wrote (fire_leg c k) n m m' s s' r
  leg_wrote m' s' r w = wrote_as (fire_leg c k) (read_then (renews c k) c o) n m m₁ m' s s' r fire_leg_is w

-- leaving: the bits, then the leg certificate, then the record
module _ (c n : ℕ) (m : Hall) (s : List ℕ) (x : Fits (leave c) n m s) where
  abbrev dropped : Move
  dropped = on_axes (λ a. drops c a (others c m))

  abbrev gone : Move
  gone h = silent (with_craft c None h)

  abbrev ended : Move
  ended = then (take_away withdrawn (leg_slot c)) gone

  whole : Fits (then dropped ended) n m s
  whole = record { room = x.room; numbers = x.numbers }

  module _ (m₁ : Hall) (s₁ : List ℕ) (r₁ : ℕ) (w₁ : Wrote dropped n m m₁ s s₁ r₁) where
    pub leave_wrote : (slot : ℕ) → slot ≡ leg_slot c → (m₂ m₃ : Hall) (s₂ : List ℕ) (r₂ : ℕ) → Wrote (take_away withdrawn slot) r₁ m₁ m₂ s₁ s₂ r₂ → m₃ ≡ with_craft c None m₂ → Wrote (leave c) n m m₃ s s₂ r₂
    leave_wrote slot e m₂ m₃ s₂ r₂ w₂ g =
        let a = wrote_as (take_away withdrawn (leg_slot c)) (take_away withdrawn slot) r₁ m₁ m₁ m₂ s₁ s₂ r₂ (ap (λ (z : ℕ). take_away withdrawn z m₁) (sym e)) w₂ in
        let b : Wrote gone r₂ m₂ m₃ s₂ s₂ r₂ = record { hall = g; slip = sym (written_none r₂ s₂); count = sym (add-zero r₂) } in
        let y = fits_second dropped ended n m m₁ s s₁ r₁ whole w₁ in
        let d = wrote_then (take_away withdrawn (leg_slot c)) gone r₁ m₁ m₂ m₃ s₁ s₂ s₂ r₂ r₂ (first_room (take_away withdrawn (leg_slot c)) gone r₁ m₁ s₁ y) a b in
        let v = wrote_then dropped ended n m m₁ m₃ s s₁ s₂ r₁ r₂ (first_room dropped ended n m s whole) w₁ d in
        record { hall = v.hall; slip = v.slip; count = v.count }

module _ (slot n : ℕ) (k : Stamp) (m : Hall) (s : List ℕ) (x : Fits (fire slot k) n m s) where
  module _ (m₁ : Hall) (s₁ : List ℕ) (r₁ : ℕ) (w₁ : Wrote (take_away fired slot) n m m₁ s s₁ r₁) where
    then_kind : Fits (fire_kind (ltb slot 12288) slot k) r₁ m₁ s₁
    then_kind = fits_second (take_away fired slot) (fire_kind (ltb slot 12288) slot k) n m m₁ s s₁ r₁ x w₁

    is_bit : (b : ℕ) → b ≡ slot → b < 12288 → (h : Hall) → fire_kind (ltb slot 12288) slot k h ≡ fire_bit b k h
    is_bit b e l h = subst (λ (z : ℕ). fire_kind (ltb z 12288) z k h ≡ fire_bit b k h) e (ap (λ (t : Bool). fire_kind t b k h) (lt-ltb b 12288 l))

    is_leg : (c : ℕ) → leg_slot c ≡ slot → (h : Hall) → fire_kind (ltb slot 12288) slot k h ≡ fire_leg c k h
    is_leg c e h =
        let l : c ≡ slot - 12288 = omega arith in
        ap (λ (t : Bool). fire_kind t slot k h) (le-ltb slot 12288 (omega arith)) ∙ ap (λ (z : ℕ). fire_leg z k h) (sym l)

    pub fire_fits_bit : (b : ℕ) → b ≡ slot → b < 12288 → Fits (fire_bit b k) r₁ m₁ s₁
    fire_fits_bit b e l = fits_as (fire_kind (ltb slot 12288) slot k) (fire_bit b k) r₁ m₁ m₁ s₁ (is_bit b e l m₁) then_kind

    pub fire_fits_leg : (c : ℕ) → leg_slot c ≡ slot → Fits (fire_leg c k) r₁ m₁ s₁
    fire_fits_leg c e = fits_as (fire_kind (ltb slot 12288) slot k) (fire_leg c k) r₁ m₁ m₁ s₁ (is_leg c e m₁) then_kind

    both : (f : Move) → fire_kind (ltb slot 12288) slot k m₁ ≡ f m₁ → (m₂ : Hall) (s₂ : List ℕ) (r₂ : ℕ) → Wrote f r₁ m₁ m₂ s₁ s₂ r₂ → Wrote (fire slot k) n m m₂ s s₂ r₂
    both f e m₂ s₂ r₂ w = wrote_then (take_away fired slot) (fire_kind (ltb slot 12288) slot k) n m m₁ m₂ s s₁ s₂ r₁ r₂ (first_room (take_away fired slot) (fire_kind (ltb slot 12288) slot k) n m s x) w₁
        (wrote_as (fire_kind (ltb slot 12288) slot k) f r₁ m₁ m₁ m₂ s₁ s₂ r₂ e w)

    pub fire_wrote_bit : (b : ℕ) → b ≡ slot → b < 12288 → (m₂ : Hall) (s₂ : List ℕ) (r₂ : ℕ) → Wrote (fire_bit b k) r₁ m₁ m₂ s₁ s₂ r₂ → Wrote (fire slot k) n m m₂ s s₂ r₂
    fire_wrote_bit b e l = both (fire_bit b k) (is_bit b e l m₁)

    pub fire_wrote_leg : (c : ℕ) → leg_slot c ≡ slot → (m₂ : Hall) (s₂ : List ℕ) (r₂ : ℕ) → Wrote (fire_leg c k) r₁ m₁ m₂ s₁ s₂ r₂ → Wrote (fire slot k) n m m₂ s s₂ r₂
    fire_wrote_leg c e = both (fire_leg c k) (is_leg c e m₁)
