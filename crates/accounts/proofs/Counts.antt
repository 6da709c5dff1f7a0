-- The lines that each move writes and the numbers that it grants, counted.
use Rattle.std.proofs.Common.{◌≡◌, ℕ, zero, suc, ◌+◌, ◌-◌, ◌*◌, ◌<◌, ◌≤◌, Bool, true, false, cond, not, ◌&&◌, eqb, ltb, ◌⊎◌, List, [], ◌∷◌, ◌++◌, length, None, sym, refl, ap, ◌∙◌, inl, inr, arith, length-append, ltb-false, eq-eqb, ne_eqb}
use mathlib.Core.Bool.{and-true, and-false}
use mathlib.Core.List.Memᴰ
use Rattle.rules.specs.Basics.{◌∈◌, those, below, put}
use Rattle.rules.specs.Stamps.{Stamp}
use Rattle.rules.specs.Paths.{Axis, X, Y, Z}
use Rattle.rules.specs.Books.{BookChange, changed}
use Rattle.rules.specs.Boxes.{Box}
use Rattle.rules.specs.Slots.{slot, leg_slot}
use Rattle.model.specs.Halls.{Hall, all_craft, in_hall, entered, others, with_book, with_craft}
use Rattle.model.specs.Moves.{Out, silent, then, each, on_axes, withdrawn, fired, take_away, grant_bit, enter_bit, drop_bit, grant_leg, read_leg, craft_of, enter, leave, craft_set, followers, come_back, renew, fire_leg, fire_kind}
use Rattle.accounts.specs.Bounds.{Within, EnterWithin, LeaveWithin, ChangeWithin, FireWithin}
use Rattle.accounts.proofs.Puts.{put_here, put_other, same_or_not, those_append}
use Rattle.accounts.proofs.Slotted.{Apart}
use Rattle.accounts.proofs.Frames.{alike, put_as_was, enter_in, leave_in, all_out, SomeEntered, followers_entered}

-- HOW MANY PASS

-- one more number at the end passes or not
more_pass : (p : ℕ → Bool) (n : ℕ) → length (those p (below (suc n))) ≡ length (those p (below n)) + length (those p (n ∷ []))
more_pass p n = ap length (those_append p (below n) (n ∷ [])) ∙ length-append (those p (below n)) (those p (n ∷ []))

one_pass : (p : ℕ → Bool) (n : ℕ) (v : Bool) → p n ≡ v → length (those p (n ∷ [])) ≡ cond v 1 0
one_pass p n v e = ap (λ (b : Bool). length (cond b (n ∷ []) [])) e ∙ by v
  where
    by : (b : Bool) → length (cond b (n ∷ []) []) ≡ cond b 1 0
    by true = refl
    by false = refl

at_most : (p : ℕ → Bool) (n : ℕ) → length (those p (below n)) ≤ n
at_most p zero = omega arith
at_most p (suc n) = by (p n) refl (at_most p n)
  where
    by : (b : Bool) → p n ≡ b → length (those p (below n)) ≤ n → length (those p (below (suc n))) ≤ suc n
    by true e h = let u = more_pass p n in let v : length (those p (n ∷ [])) ≡ 1 = one_pass p n true e in omega arith
    by false e h = let u = more_pass p n in let v : length (those p (n ∷ [])) ≡ 0 = one_pass p n false e in omega arith

-- without c
abbrev less : (ℕ → Bool) → ℕ → ℕ → Bool
less p c d = p d && not (eqb d c)

less_same : (p : ℕ → Bool) (c d : ℕ) → (d ≡ c → ⊥) → less p c d ≡ p d
less_same p c d ne = ap (λ (b : Bool). p d && not b) (ne_eqb d c ne) ∙ and-true (p d)

less_none : (p : ℕ → Bool) (c d : ℕ) → d ≡ c → less p c d ≡ false
less_none p c d e = ap (λ (b : Bool). p d && not b) (eq-eqb d c e) ∙ and-false (p d)

-- all below n are other than c
none_yet : (p : ℕ → Bool) (c n : ℕ) → n ≤ c → length (those (less p c) (below n)) ≡ length (those p (below n))
none_yet p c zero h = refl
none_yet p c (suc n) h =
    let e = less_same p c n (λ q. omega arith) in
    let g = none_yet p c n (omega arith) in
    let s : length (those (less p c) (n ∷ [])) ≡ length (those p (n ∷ [])) = ap (λ (b : Bool). length (cond b (n ∷ []) [])) e in
    let u = more_pass (less p c) n in
    let v = more_pass p n in
    omega arith

pub one_less : (p : ℕ → Bool) (c n : ℕ) → c < n → p c ≡ true → suc (length (those (less p c) (below n))) ≡ length (those p (below n))
one_less p c zero h e = absurd (omega arith)
one_less p c (suc n) h e = by (same_or_not n c) (λ g. one_less p c n g e)
  where
    by : (n ≡ c) ⊎ (n ≡ c → ⊥) → (c < n → suc (length (those (less p c) (below n))) ≡ length (those p (below n))) → suc (length (those (less p c) (below (suc n)))) ≡ length (those p (below (suc n)))
    by (inl q) more =
        let s : length (those (less p c) (n ∷ [])) ≡ 0 = one_pass (less p c) n false (less_none p c n q) in
        let t : length (those p (n ∷ [])) ≡ 1 = one_pass p n true (ap p q ∙ e) in
        let g = none_yet p c n (omega arith) in
        let u = more_pass (less p c) n in
        let v = more_pass p n in
        omega arith
    by (inr q) more =
        let g = more (omega arith) in
        let s : length (those (less p c) (n ∷ [])) ≡ length (those p (n ∷ [])) = ap (λ (b : Bool). length (cond b (n ∷ []) [])) (less_same p c n q) in
        let u = more_pass (less p c) n in
        let v = more_pass p n in
        omega arith

-- HOW MANY ARE ENTERED

abbrev pub many : Hall → ℕ
many m = length (entered m)

pub many_most : (m : Hall) → many m ≤ 64
unfolding all_craft
many_most m = at_most (in_hall m) 64

-- p with c put to a value, without c
less_put : (p : ℕ → Bool) (c : ℕ) (v : Bool) → less (put p c v) c ≡ less p c
less_put p c v = alike (less (put p c v) c) (less p c) (λ d. by d (eqb d c))
  where
    by : (d : ℕ) (b : Bool) → cond b v (p d) && not b ≡ p d && not b
    by d true = and-false v ∙ sym (and-false (p d))
    by d false = refl

less_is_put : (p : ℕ → Bool) (c : ℕ) → put p c false ≡ less p c
less_is_put p c = alike (put p c false) (less p c) (λ d. by d (eqb d c))
  where
    by : (d : ℕ) (b : Bool) → cond b false (p d) ≡ p d && not b
    by d true = sym (and-false (p d))
    by d false = sym (and-true (p d))

-- with c in the hall there is one more than its others
pub one_more : (m : Hall) (c : ℕ) → c < 64 → in_hall m c ≡ true → many m ≡ suc (length (others c m))
unfolding all_craft
one_more m c h e = sym (one_less (in_hall m) c 64 h e)

pub no_more : (m : Hall) (c : ℕ) → in_hall m c ≡ false → many m ≡ length (others c m)
no_more m c e = ap (λ (E : ℕ → Bool). length (those E all_craft)) (sym (put_as_was (in_hall m) c false e) ∙ less_is_put (in_hall m) c)

few : (p : ℕ → Bool) (c n : ℕ) → c < n → length (those (less p c) (below n)) < n
few p c n h =
    let u = one_less (put p c true) c n h (put_here p c true) in
    let v = at_most (put p c true) n in
    let w : length (those (less (put p c true) c) (below n)) ≡ length (those (less p c) (below n)) = ap (λ (q : ℕ → Bool). length (those q (below n))) (less_put p c true) in
    omega arith

pub few_others : (m : Hall) (c : ℕ) → c < 64 → length (others c m) < 64
unfolding all_craft
few_others m c h = few (in_hall m) c 64 h

pub many_left : (c : ℕ) (m : Hall) → many (leave c m).hall ≡ length (others c m)
many_left c m = ap (λ (E : ℕ → Bool). length (those E all_craft)) (leave_in c m ∙ less_is_put (in_hall m) c)

pub many_entered : (c : ℕ) (b : Box) (k : Stamp) (m : Hall) → c < 64 → many (enter c b k m).hall ≡ suc (length (others c m))
many_entered c b k m h =
    one_more (enter c b k m).hall c h (ap (λ (E : ℕ → Bool). E c) (enter_in c b k m) ∙ put_here (in_hall m) c true)
    ∙ ap (λ (E : ℕ → Bool). suc (length (those E all_craft))) (ap (λ (E : ℕ → Bool). less E c) (enter_in c b k m) ∙ less_put (in_hall m) c true)

-- LINES AND NUMBERS

-- exactly so many lines, and so many numbers more
abbrev Costs : ℕ → ℕ → (Hall → Out) → Type 0
Costs n g f = (m : Hall) → (length (f m).lines ≡ n) × ((f m).hall.last ≡ m.last + g)

then_costs : (n g n' g' : ℕ) (f h : Hall → Out) → Costs n g f → Costs n' g' h → Costs (n + n') (g + g') (then f h)
then_costs n g n' g' f h p q m =
    let u = p m in
    let v = q (f m).hall in
    let w = length-append (f m).lines (h (f m).hall).lines in
    (omega arith, omega arith)

each_gives : (f : ℕ → Hall → Out) → ((d : ℕ) → Costs 1 1 (f d)) → (ds : List ℕ) → Costs (length ds) (length ds) (each f ds)
each_gives f p [] m = (refl, omega arith)
each_gives f p (d ∷ ds) m =
    let u = p d m in
    let v = each_gives f p ds (f d m).hall in
    let w = length-append (f d m).lines (each f ds (f d m).hall).lines in
    (omega arith, omega arith)

each_takes : (f : ℕ → Hall → Out) → ((d : ℕ) → Costs 1 0 (f d)) → (ds : List ℕ) → Costs (length ds) 0 (each f ds)
each_takes f p [] m = (refl, omega arith)
each_takes f p (d ∷ ds) m =
    let u = p d m in
    let v = each_takes f p ds (f d m).hall in
    let w = length-append (f d m).lines (each f ds (f d m).hall).lines in
    (omega arith, omega arith)

axes_costs : (n g : ℕ) (f : Axis → Hall → Out) → ((a : Axis) → Costs n g (f a)) → Costs (3 * n) (3 * g) (on_axes f)
axes_costs n g f p m =
    let u = p X m in
    let v = p Y (f X m).hall in
    let w = p Z (f Y (f X m).hall).hall in
    let a = length-append (f X m).lines ((f Y (f X m).hall).lines ++ (f Z (f Y (f X m).hall).hall).lines) in
    let b = length-append (f Y (f X m).hall).lines (f Z (f Y (f X m).hall).hall).lines in
    (omega arith, omega arith)

grant_costs : (m : Hall) → (◌≡◌ {A = ℕ} 1 1) × (suc m.last ≡ m.last + 1)
grant_costs m = (refl, omega arith)

pub enter_costs : (c : ℕ) (b : Box) (k : Stamp) (m : Hall) → let n = 3 * length (others c m) + 1 in (length (enter c b k m).lines ≡ n) × ((enter c b k m).hall.last ≡ m.last + n)
enter_costs c b k m =
    let ds = others c m in
    then_costs (3 * length ds) (3 * length ds) 1 1 (on_axes (λ a. each (enter_bit a c k) ds)) (grant_leg c k)
    (axes_costs (length ds) (length ds) (λ a. each (enter_bit a c k) ds) (λ a. each_gives (enter_bit a c k) (λ d n. grant_costs n) ds))
    (λ n. grant_costs n) (read_leg c b k m)

take_costs : (m : Hall) → (◌≡◌ {A = ℕ} 1 1) × (m.last ≡ m.last + 0)
take_costs m = (refl, omega arith)

pub leave_costs : (c : ℕ) (m : Hall) → (length (leave c m).lines ≡ 3 * length (others c m) + 1) × ((leave c m).hall.last ≡ m.last)
leave_costs c m =
    let ds = others c m in
    let h = then_costs (3 * length ds) (3 * 0) 1 0 (on_axes (λ a. each (drop_bit a c) ds)) (then (take_away withdrawn (leg_slot c)) (λ n. silent (with_craft c None n)))
    (axes_costs (length ds) 0 (λ a. each (drop_bit a c) ds) (λ a. each_takes (drop_bit a c) (λ d n. take_costs n) ds))
    (λ n. take_costs n) m in
    (h.0, omega arith)

renew_costs : (c : ℕ) (ds : List ℕ) (k : Stamp) (a : Axis) → Costs (length ds + length ds) (0 + length ds) (renew c ds k a)
renew_costs c ds k a =
    then_costs (length ds) 0 (length ds) (length ds) (each (λ d. take_away withdrawn (slot a c d)) ds) (each (λ d. grant_bit a c d k) ds)
    (each_takes (λ d. take_away withdrawn (slot a c d)) (λ d n. take_costs n) ds)
    (each_gives (λ d. grant_bit a c d k) (λ d n. grant_costs n) ds)

pub fire_leg_costs : (c : ℕ) (k : Stamp) (m : Hall) → let n = length (others c m) in (length (fire_leg c k m).lines ≡ 6 * n + 1) × ((fire_leg c k m).hall.last ≡ m.last + (3 * n + 1))
fire_leg_costs c k m =
    let ds = others c m in
    let h = then_costs (3 * (length ds + length ds)) (3 * (0 + length ds)) 1 1 (on_axes (renew c ds k)) (grant_leg c k)
    (axes_costs (length ds + length ds) (0 + length ds) (renew c ds k) (renew_costs c ds k))
    (λ n. grant_costs n) (read_leg c (craft_of c m).box k m) in
    (omega arith, omega arith)

-- THE BOUNDS

pub enter_within : EnterWithin
enter_within c b k m h = let u = enter_costs c b k m in let v = few_others m c h in record { lines = omega arith; most = omega arith; fewest = omega arith }

pub leave_within : LeaveWithin
leave_within c m h = let u = leave_costs c m in let v = few_others m c h in record { lines = omega arith; most = omega arith; fewest = omega arith }

pub fire_within : FireWithin
fire_within s k m h = by (ltb s 12288) refl
  where
    n : Hall
    n = (take_away fired s m).hall

    by : (b : Bool) → ltb s 12288 ≡ b → let o = then (take_away fired s) (fire_kind b s k) m in Within 380 190 m o × (m.last < o.hall.last)
    by true e = (record { lines = omega arith; most = omega arith; fewest = omega arith }, omega arith)
    by false e =
        let g = ltb-false s 12288 e in
        let u = fire_leg_costs (s - 12288) k (take_away fired s m).hall in
        let v = few_others (take_away fired s m).hall (s - 12288) (omega arith) in
        (record { lines = omega arith; most = omega arith; fewest = omega arith }, omega arith)

-- how many certificates stand when n craft are entered
abbrev standing : ℕ → ℕ
standing zero = 0
standing (suc n) = standing n + (3 * n + 1)

standing_rises : (n k : ℕ) → n ≤ k → standing n ≤ standing k
standing_rises n zero h = let e : n ≡ 0 = omega arith in let g : standing n ≡ standing 0 = ap standing e in omega arith
standing_rises n (suc k) h = by (same_or_not n (suc k)) (λ g. standing_rises n k g)
  where
    by : (n ≡ suc k) ⊎ (n ≡ suc k → ⊥) → (n ≤ k → standing n ≤ standing k) → standing n ≤ standing (suc k)
    by (inl e) more = let g : standing n ≡ standing (suc k) = ap standing e in omega arith
    by (inr e) more = let g = more (omega arith) in omega arith

standing_most : (n : ℕ) → n ≤ 64 → standing n ≤ 6112
standing_most n h = standing_rises n 64 h

leave_all : (ds : List ℕ) (m : Hall) → SomeEntered m ds → (length (each leave ds m).lines + standing (many (each leave ds m).hall) ≡ standing (many m)) × ((each leave ds m).hall.last ≡ m.last)
leave_all [] m h = (omega arith, refl)
leave_all (d ∷ ds) m h =
    let n = (leave d m).hall in
    let ih = leave_all ds n (record {
      range = λ e q. h.range e (Memᴰ.tail q);
      inside = λ e q. ap (λ (E : ℕ → Bool). E e) (leave_in d m) ∙ put_other (in_hall m) d false e (λ r. let g = h.apart.0 e q in omega arith) ∙ h.inside e (Memᴰ.tail q);
      apart = h.apart.1;
    }) in
    let u = leave_costs d m in
    let v = many_left d m in
    let w = one_more m d (h.range d (Memᴰ.head refl)) (h.inside d (Memᴰ.head refl)) in
    let x : standing (many m) ≡ standing (suc (length (others d m))) = ap standing w in
    let y : standing (many n) ≡ standing (length (others d m)) = ap standing v in
    let z = length-append (leave d m).lines (each leave ds n).lines in
    (omega arith, omega arith)

pub record SomeOutside (m : Hall) (ds : List ℕ) : Type 0 where
  pub range : (d : ℕ) → d ∈ ds → d < 64
  pub outside : (d : ℕ) → d ∈ ds → in_hall m d ≡ false
  pub apart : Apart ds

pub outside_next : (d : ℕ) (ds : List ℕ) (b : Box) (k : Stamp) (m : Hall) → SomeOutside m (d ∷ ds) → SomeOutside (enter d b k m).hall ds
outside_next d ds b k m h = record {
  range = λ e q. h.range e (Memᴰ.tail q);
  outside = λ e q. ap (λ (E : ℕ → Bool). E e) (enter_in d b k m) ∙ put_other (in_hall m) d true e (λ r. let g = h.apart.0 e q in omega arith) ∙ h.outside e (Memᴰ.tail q);
  apart = h.apart.1;
}

enter_all : (ds : List ℕ) (m₀ : Hall) (k : Stamp) (m : Hall) → SomeOutside m ds → let o = come_back ds m₀ k m in
    (length o.lines + standing (many m) ≡ standing (many o.hall)) × (o.hall.last ≡ m.last + length o.lines)
enter_all [] m₀ k m h = (omega arith, omega arith)
enter_all (d ∷ ds) m₀ k m h =
    let n = (enter d (craft_of d m₀).box k m).hall in
    let ih = enter_all ds m₀ k n (outside_next d ds (craft_of d m₀).box k m h) in
    let u = enter_costs d (craft_of d m₀).box k m in
    let v = many_entered d (craft_of d m₀).box k m (h.range d (Memᴰ.head refl)) in
    let w = no_more m d (h.outside d (Memᴰ.head refl)) in
    let x : standing (many m) ≡ standing (length (others d m)) = ap standing w in
    let y : standing (many n) ≡ standing (suc (length (others d m))) = ap standing v in
    let z = length-append (enter d (craft_of d m₀).box k m).lines (come_back ds m₀ k n).lines in
    (omega arith, omega arith)

-- the followers are outside after they have left
pub followers_outside : (x : BookChange) (m : Hall) → let ds = followers (craft_set x) m in let h = (each leave ds m).hall in SomeOutside (with_book (changed x h.book) h) ds
followers_outside x m = let f = followers_entered (craft_set x) m in record {
  range = f.range;
  outside = λ d e. all_out (followers (craft_set x) m) m d e;
  apart = f.apart;
}

pub change_within : ChangeWithin
change_within x k m =
    let ds = followers (craft_set x) m in
    let h = (each leave ds m).hall in
    let n = with_book (changed x h.book) h in
    let o = come_back ds m k n in
    let u = leave_all ds m (followers_entered (craft_set x) m) in
    let v = enter_all ds m k n (followers_outside x m) in
    let p = standing_most (many m) (many_most m) in
    let q = standing_most (many o.hall) (many_most o.hall) in
    let z = length-append (each leave ds m).lines o.lines in
    record { lines = sum _ _ _ _ _ _ _ u.0 v.0 p q z; most = up _ _ _ _ _ _ v.1 u.1 v.0 q; fewest = low _ _ _ _ v.1 u.1 }
  where
    sum : (a b c d e f l : ℕ) → a + b ≡ c → d + e ≡ f → c ≤ 6112 → f ≤ 6112 → l ≡ a + d → l ≤ 12224
    sum a b c d e f l p q r s t = omega arith

    up : (a b c d e f : ℕ) → a ≡ b + d → b ≡ c → d + e ≡ f → f ≤ 6112 → a ≤ c + 6112
    up a b c d e f p q r s = omega arith

    low : (a b c d : ℕ) → a ≡ b + d → b ≡ c → c ≤ a
    low a b c d p q = omega arith
