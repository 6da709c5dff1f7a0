-- Who is entered after each move, and the lists of the entered craft.
use Rattle.std.proofs.Common.{◌≡◌, ℕ, ◌-◌, ◌<◌, ◌≤◌, Bool, true, false, cond, not, ◌&&◌, eqb, ltb, ◌⊎◌, List, [], ◌∷◌, is_some, Some, None, Option, sym, refl, ap, ◌∙◌, inl, inr, arith, ltb-false, ne_eqb, eqb-true}
use mathlib.Core.List.Memᴰ
use borrow.Author.Tests.{eqb-false, not-true}
use Rattle.rules.specs.Basics.{◌∈◌, put}
use Rattle.rules.specs.Stamps.{Stamp}
use Rattle.rules.specs.Paths.{Axis, X, Y, Z, leg}
use Rattle.rules.specs.Books.{path, follows}
use Rattle.rules.specs.Boxes.{Box}
use Rattle.rules.specs.Slots.{slot}
use Rattle.model.specs.Halls.{Craft, Hall, all_craft, in_hall, entered, others}
use Rattle.model.specs.Moves.{Out, then, each, on_axes, take_away, withdrawn, fired, grant_bit, enter_bit, drop_bit, read_leg, craft_of, enter, leave, followers, renew, fire_leg, fire_kind, fire}
use Rattle.accounts.proofs.Puts.{put_here, those_in, in_those, in_below, below_in, turn_those, turn_below}
use Rattle.accounts.proofs.Slotted.{Apart}
use Rattle.accounts.proofs.Wanted.{Around}

-- LISTS OF CRAFT

and_left : (x y : Bool) → x && y ≡ true → x ≡ true
and_left true y e = refl
and_left false y e = e

and_right : (x y : Bool) → x && y ≡ true → y ≡ true
and_right true y e = e
and_right false y e = let z : ◌≡◌ {A = ℕ} 0 1 = cc in absurd (omega arith)

both : (x y : Bool) → x ≡ true → y ≡ true → x && y ≡ true
both x y p q = λ i. p i && q i

pub craft_apart : Apart all_craft
unfolding all_craft
craft_apart = turn_below 64

pub craft_below : (d : ℕ) → d ∈ all_craft → d < 64
unfolding all_craft
craft_below d e = in_below 64 d e

pub below_craft : (d : ℕ) → d < 64 → d ∈ all_craft
unfolding all_craft
below_craft d e = below_in 64 d e

pub others_around : (c : ℕ) (m : Hall) → c < 64 → Around (in_hall m) c (others c m)
others_around c m p = record {
  others = record {
    self = p;
    range = λ d e. craft_below d (those_in test all_craft d e).0;
    apart = turn_those (λ (x y : ℕ). x < y) test all_craft craft_apart;
    not_self = λ d e. eqb-false d c (not-true (eqb d c) (and_right (in_hall m d) (not (eqb d c)) (those_in test all_craft d e).1));
  };
  entered = λ d e. and_left (in_hall m d) (not (eqb d c)) (those_in test all_craft d e).1;
  all = λ d q e ne. in_those test all_craft d (below_craft d q) (both (in_hall m d) (not (eqb d c)) e (ap not (ne_eqb d c ne)));
}
  where
    test : ℕ → Bool
    test d = in_hall m d && not (eqb d c)

pub record SomeEntered (m : Hall) (ds : List ℕ) : Type 0 where
  pub range : (d : ℕ) → d ∈ ds → d < 64
  pub inside : (d : ℕ) → d ∈ ds → in_hall m d ≡ true
  pub apart : Apart ds

pub followers_entered : (c : ℕ) (m : Hall) → SomeEntered m (followers c m)
followers_entered c m = record {
  range = λ d e. craft_below d (those_in (in_hall m) all_craft d (those_in (follows m.book c) (entered m) d e).0).0;
  inside = λ d e. (those_in (in_hall m) all_craft d (those_in (follows m.book c) (entered m) d e).0).1;
  apart = turn_those (λ (x y : ℕ). x < y) (follows m.book c) (entered m) (turn_those (λ (x y : ℕ). x < y) (in_hall m) all_craft craft_apart);
}

-- THE CRAFT AFTER EACH MOVE

pub each_craft : (f : ℕ → Hall → Out) → ((d : ℕ) (h : Hall) → (f d h).hall.craft ≡ h.craft) → (ds : List ℕ) (m : Hall) → (each f ds m).hall.craft ≡ m.craft
each_craft f p [] m = refl
each_craft f p (d ∷ ds) m = each_craft f p ds (f d m).hall ∙ p d m

pub axes_craft : (f : Axis → Hall → Out) → ((a : Axis) (h : Hall) → (f a h).hall.craft ≡ h.craft) → (m : Hall) → (on_axes f m).hall.craft ≡ m.craft
axes_craft f p m = p Z (f Y (f X m).hall).hall ∙ p Y (f X m).hall ∙ p X m

pub enter_craft : (c : ℕ) (b : Box) (k : Stamp) (m : Hall) → (enter c b k m).hall.craft ≡ put m.craft c (Some (record { box = b; leg = leg (path m.book c) k.time }))
enter_craft c b k m = axes_craft (λ a. each (enter_bit a c k) (others c m)) (λ a h. each_craft (enter_bit a c k) (λ d n. refl) (others c m) h) (read_leg c b k m)

pub leave_craft : (c : ℕ) (m : Hall) → (leave c m).hall.craft ≡ put m.craft c None
leave_craft c m = ap (λ (f : ℕ → Option Craft). put f c None) (axes_craft (λ a. each (drop_bit a c) (others c m)) (λ a h. each_craft (drop_bit a c) (λ d n. refl) (others c m) h) m)

pub renew_craft : (c : ℕ) (ds : List ℕ) (k : Stamp) (a : Axis) (h : Hall) → (renew c ds k a h).hall.craft ≡ h.craft
renew_craft c ds k a h =
    each_craft (λ d. grant_bit a c d k) (λ d n. refl) ds (each (λ d. take_away withdrawn (slot a c d)) ds h).hall
    ∙ each_craft (λ d. take_away withdrawn (slot a c d)) (λ d n. refl) ds h

pub fire_leg_craft : (c : ℕ) (k : Stamp) (m : Hall) → (fire_leg c k m).hall.craft ≡ put m.craft c (Some (record { box = (craft_of c m).box; leg = leg (path m.book c) k.time }))
fire_leg_craft c k m = axes_craft (renew c (others c m) k) (renew_craft c (others c m) k) (read_leg c (craft_of c m).box k m)

-- WHO IS ENTERED AFTER EACH MOVE

in_put : (f : ℕ → Option Craft) (c : ℕ) (o : Option Craft) (d : ℕ) → is_some (put f c o d) ≡ put (λ j. is_some (f j)) c (is_some o) d
in_put f c o d = by (eqb d c)
  where
    by : (b : Bool) → is_some (cond b o (f d)) ≡ cond b (is_some o) (is_some (f d))
    by true = refl
    by false = refl

-- from pointwise to equal
pub alike : (E F : ℕ → Bool) → ((d : ℕ) → E d ≡ F d) → E ≡ F
alike E F h = λ i d. h d i

after_put : (m n : Hall) (c : ℕ) (o : Option Craft) → n.craft ≡ put m.craft c o → in_hall n ≡ put (in_hall m) c (is_some o)
after_put m n c o e = alike (in_hall n) (put (in_hall m) c (is_some o)) (λ d. ap (λ (f : ℕ → Option Craft). is_some (f d)) e ∙ in_put m.craft c o d)

pub enter_in : (c : ℕ) (b : Box) (k : Stamp) (m : Hall) → in_hall (enter c b k m).hall ≡ put (in_hall m) c true
enter_in c b k m = after_put m (enter c b k m).hall c _ (enter_craft c b k m)

pub leave_in : (c : ℕ) (m : Hall) → in_hall (leave c m).hall ≡ put (in_hall m) c false
leave_in c m = after_put m (leave c m).hall c None (leave_craft c m)

pub put_as_was : (E : ℕ → Bool) (c : ℕ) (v : Bool) → E c ≡ v → put E c v ≡ E
put_as_was E c v e = alike (put E c v) E (λ d. by d (eqb d c) refl)
  where
    by : (d : ℕ) (b : Bool) → eqb d c ≡ b → cond b v (E d) ≡ E d
    by d true q = sym e ∙ ap E (sym (eqb-true d c q))
    by d false q = refl

pub fire_leg_in : (c : ℕ) (k : Stamp) (m : Hall) → in_hall m c ≡ true → in_hall (fire_leg c k m).hall ≡ in_hall m
fire_leg_in c k m e = after_put m (fire_leg c k m).hall c _ (fire_leg_craft c k m) ∙ put_as_was (in_hall m) c true e

pub fire_in : (s : ℕ) (k : Stamp) (m : Hall) → (12288 ≤ s → in_hall m (s - 12288) ≡ true) → in_hall (fire s k m).hall ≡ in_hall m
fire_in s k m h = by (ltb s 12288) refl
  where
    by : (b : Bool) → ltb s 12288 ≡ b → in_hall (then (take_away fired s) (fire_kind b s k) m).hall ≡ in_hall m
    by true e = refl
    by false e = fire_leg_in (s - 12288) k (take_away fired s m).hall (h (ltb-false s 12288 e))

-- leaving takes no one in, entering lets no one out
pub leave_out : (ds : List ℕ) (m : Hall) (j : ℕ) → in_hall m j ≡ false → in_hall (each leave ds m).hall j ≡ false
leave_out [] m j e = e
leave_out (d ∷ ds) m j e = leave_out ds (leave d m).hall j (ap (λ (F : ℕ → Bool). F j) (leave_in d m) ∙ by (eqb j d))
  where
    by : (b : Bool) → cond b false (in_hall m j) ≡ false
    by true = refl
    by false = e

-- all of a list have left
pub all_out : (ds : List ℕ) (m : Hall) (d : ℕ) → d ∈ ds → in_hall (each leave ds m).hall d ≡ false
all_out [] m d e = absurd (Memᴰ.not-nil e)
all_out (x ∷ xs) m d e = by (λ g. all_out xs (leave x m).hall d g) (Memᴰ.cases_cons e)
  where
    by : (d ∈ xs → in_hall (each leave xs (leave x m).hall).hall d ≡ false) → (d ≡ x) ⊎ (d ∈ xs) → in_hall (each leave xs (leave x m).hall).hall d ≡ false
    by more (inr g) = more g
    by more (inl g) = leave_out xs (leave x m).hall d (ap (λ (F : ℕ → Bool). F d) (leave_in x m) ∙ ap (put (in_hall m) x false) g ∙ put_here (in_hall m) x false)
