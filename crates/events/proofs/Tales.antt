-- Bits that follow facts over time, and the tale of their changes: exactly the turns of the pairs, once each and in order.
use Rattle.std.proofs.Common.{◌≡◌, ℕ, ◌≤◌, Bool, true, false, not, ◌&&◌, ◌⊎◌, List, [], ◌∷◌, ◌++◌, sym, refl, ap, ◌∙◌, subst, inl, inr, arith}
use mathlib.Core.List.Memᴰ
use native.Mathlib.Decide.{ℕ_discrete}
use Rattle.rules.specs.Basics.{◌∈◌, InTurn}
use Rattle.rules.specs.Fractions.{Before, NotAfter, SameTime}
use Rattle.rules.specs.Stamps.{Stamp, Earlier, side}
use Rattle.rules.specs.Paths.{Axis, X, Y, Z, on_every_axis}
use Rattle.rules.specs.Pages.{News, met, parted, Report}
use Rattle.rules.proofs.Stamped.{false_true, not_earlier_out}
use Rattle.geometry_laws.specs.Points.{Point, Sooner, Upto, Same, During}
use Rattle.geometry_laws.proofs.Points.{sooner_dec, sooner_upto, upto_self, upto_trans, sooner_trans, upto_sooner, sooner_upto_trans, same_sym, same_trans, upto_out, same_time}
use Rattle.model.specs.Statement.{InOrder, IsParting}
use Rattle.model.specs.Runs.{news}
use Rattle.model.specs.Histories.{stepped_with}
use Rattle.events.specs.Machine.{Pair}

-- ---- bits, axes and pairs
pub not_itself : (b : Bool) → b ≡ not b → ⊥
not_itself true e = false_true (sym e)
not_itself false e = false_true e

pub not_not : (b : Bool) → not (not b) ≡ b
not_not true = refl
not_not false = refl

pub axis_dec : (a b : Axis) → Dec (a ≡ b)
axis_dec a b = go a b
  where
    code : Axis → ℕ
    code X = 0
    code Y = 1
    code Z = 2

    apart : (a b : Axis) → (code a ≡ code b → ⊥) → a ≡ b → ⊥
    apart a b f e = f (ap code e)

    go : (a b : Axis) → Dec (a ≡ b)
    go X X = yes refl
    go X Y = no (apart X Y (λ e. omega arith))
    go X Z = no (apart X Z (λ e. omega arith))
    go Y X = no (apart Y X (λ e. omega arith))
    go Y Y = yes refl
    go Y Z = no (apart Y Z (λ e. omega arith))
    go Z X = no (apart Z X (λ e. omega arith))
    go Z Y = no (apart Z Y (λ e. omega arith))
    go Z Z = yes refl

pub pair_dec : (i j : Pair) → Dec (i ≡ j)
pair_dec i j = go (ℕ_discrete i.lower j.lower) (ℕ_discrete i.higher j.higher)
  where
    go : Dec (i.lower ≡ j.lower) → Dec (i.higher ≡ j.higher) → Dec (i ≡ j)
    go (yes e) (yes f) = yes (λ k. record { lower = e k; higher = f k })
    go (no n) f = no (λ e. n (ap (λ (p : Pair). p.lower) e))
    go (yes e) (no n) = no (λ e. n (ap (λ (p : Pair). p.higher) e))

pub every : (f g : Axis → Bool) → ((a : Axis) → f a ≡ g a) → on_every_axis f ≡ on_every_axis g
every f g h = λ i. on_every_axis (λ a. h a i)

pub every_set : (f : Axis → Bool) → on_every_axis f ≡ true → (a : Axis) → f a ≡ true
every_set f e = go (f X) (f Y) (f Z) refl refl refl e
  where
    go : (x y z : Bool) → f X ≡ x → f Y ≡ y → f Z ≡ z → (x && y && z) ≡ true → (a : Axis) → f a ≡ true
    go true true true p q r e X = p
    go true true true p q r e Y = q
    go true true true p q r e Z = r
    go true true false p q r e a = absurd (false_true e)
    go true false z p q r e a = absurd (false_true e)
    go false y z p q r e a = absurd (false_true e)

pub some_off : (f : Axis → Bool) (a : Axis) → f a ≡ false → on_every_axis f ≡ false
some_off f a e = go (on_every_axis f) refl
  where
    go : (b : Bool) → on_every_axis f ≡ b → on_every_axis f ≡ false
    go false g = g
    go true g = absurd (false_true (sym e ∙ every_set f g a))

-- ---- reports
abbrev pub news_at : Bool → Pair → News
news_at false i = met i.lower i.higher
news_at true i = parted i.lower i.higher

-- what there is to report of a pair that turns at a moment: it meets at side 0, and parts at side 1
abbrev pub report : Pair → Stamp → Report
report i k = record { time = k.time; news = news_at k.after i }

abbrev pair_in : News → Pair
pair_in (met c d) = record { lower = c; higher = d }
pair_in (parted c d) = record { lower = c; higher = d }

abbrev side_in : News → Bool
side_in (met c d) = false
side_in (parted c d) = true

pair_at : (s : Bool) (i : Pair) → pair_in (news_at s i) ≡ i
pair_at true i = refl
pair_at false i = refl

side_at : (s : Bool) (i : Pair) → side_in (news_at s i) ≡ s
side_at true i = refl
side_at false i = refl

parting_at : (s : Bool) (i : Pair) → IsParting (news_at s i) → s ≡ true
parting_at true i p = refl
parting_at false i p = absurd p

at_parting : (s : Bool) (i : Pair) → s ≡ true → IsParting (news_at s i)
at_parting true i e = tt
at_parting false i e = absurd (false_true e)

-- what the facts of a pair have to do with its turns
pub record Kinetic (so : Pair → Axis → Point → Bool) (Turn : Pair → Point → Type 0) : Type 0 where
  pub same : (i : Pair) (a : Axis) (j k : Point) → Same j k → so i a j ≡ so i a k
  -- a fact that has held until a time holds at it
  pub arrives : (i : Pair) (a : Axis) (m n : Point) → Sooner m n → n.stamp.after ≡ false → During (λ k. so i a k ≡ true) m n → so i a n ≡ true
  -- one that does not hold at a time does not hold just after it
  pub stays_off : (i : Pair) (a : Axis) (m n : Point) → Sooner m n → n.stamp.after ≡ true → During (λ k. so i a k ≡ false) m n → so i a n ≡ false
  -- what was told rightly until n turns at n exactly if that is wrong there
  pub turn_wrong : (i : Pair) (b : Bool) (m n : Point) → Sooner m n → During (λ k. b ≡ on_every_axis (λ a. so i a k)) m n → Turn i n → on_every_axis (λ a. so i a n) ≡ not b
  pub wrong_turn : (i : Pair) (b : Bool) (m n : Point) → Sooner m n → During (λ k. b ≡ on_every_axis (λ a. so i a k)) m n → on_every_axis (λ a. so i a n) ≡ not b → Turn i n

module _ (In : Pair → Type 0) (so : Pair → Axis → Point → Bool) (Turn : Pair → Point → Type 0) where
  -- every bit of a pair that is in is right at k
  abbrev pub Right : (Pair → Axis → Bool) → Point → Type 0
  Right b k = (i : Pair) → In i → (a : Axis) → b i a ≡ so i a k

  -- at side 0 a bit that is set is right, at side 1 one that is not set
  abbrev pub Halfway : (Pair → Axis → Bool) → Point → Type 0
  Halfway b m = (i : Pair) → In i → (a : Axis) → b i a ≡ not m.stamp.after → so i a m ≡ not m.stamp.after

  -- what is still to be told at k: a later turn, or one now that the bits do not yet tell
  abbrev pub Owed : (Pair → Axis → Bool) → Pair → Point → Point → Type 0
  Owed b i m k = (Sooner m k × Turn i k) ⊎ (Same m k × (on_every_axis (λ a. so i a k) ≡ not (on_every_axis (b i))))

  -- the report of something owed at m and told up to t
  pub record Entry (t m : Point) (b : Pair → Axis → Bool) (r : Report) : Type 0 where
    pub pair : Pair
    pub when : Point
    pub is : r ≡ report pair when.stamp
    pub inside : In pair
    pub upto : Upto when t
    pub owed : Owed b pair m when

  abbrev pub Told : Pair → Stamp → List Report → Type 0
  Told i k rs = (r : Report) × (r ∈ rs) × (r.news ≡ news_at k.after i) × SameTime r.time k.time

  -- THE TALE from m to t of bits that are b at m
  pub record Tale (t m : Point) (b : Pair → Axis → Bool) (rs : List Report) : Type 0 where
    pub true_told : (r : Report) → r ∈ rs → Entry t m b r
    pub all_told : (i : Pair) → In i → (k : Point) → Owed b i m k → Upto k t → Told i k.stamp rs
    pub ordered : InTurn InOrder rs

  -- what is owed is the same
  pub retold : (t m n : Point) (b c : Pair → Axis → Bool) (rs : List Report) →
      ((i : Pair) → In i → (k : Point) → Owed c i n k → Owed b i m k) → ((i : Pair) → In i → (k : Point) → Owed b i m k → Owed c i n k) →
      Tale t n c rs → Tale t m b rs
  retold t m n b c rs back forth tale = record {
    true_told = λ r h. let e = tale.true_told r h in record { pair = e.pair; when = e.when; is = e.is; inside = e.inside; upto = e.upto; owed = back e.pair e.inside e.when e.owed };
    all_told = λ i p k o u. tale.all_told i p k (forth i p k o) u;
    ordered = tale.ordered;
  }

  pub right_all : (b : Pair → Axis → Bool) (k : Point) (i : Pair) → In i → Right b k → on_every_axis (b i) ≡ on_every_axis (λ a. so i a k)
  right_all b k i p r = every (b i) (λ a. so i a k) (r i p)

  -- bits that are alike on the pairs that are in
  pub owed_like : (b c : Pair → Axis → Bool) (m : Point) (i : Pair) (k : Point) → on_every_axis (b i) ≡ on_every_axis (c i) → Owed b i m k → Owed c i m k
  owed_like b c m i k e (inl x) = inl x
  owed_like b c m i k e (inr x) = inr (x.0, x.1 ∙ ap not e)

  pub tale_like : (t m : Point) (b c : Pair → Axis → Bool) (rs : List Report) → ((i : Pair) → In i → on_every_axis (b i) ≡ on_every_axis (c i)) → Tale t m c rs → Tale t m b rs
  tale_like t m b c rs e tale = retold t m m b c rs (λ i p k o. owed_like c b m i k (sym (e i p)) o) (λ i p k o. owed_like b c m i k (e i p) o) tale

  module _ (K : Kinetic so Turn) where
    -- ---- the end: every bit is right up to t
    pub tale_end : (t m : Point) (b : Pair → Axis → Bool) → ((k : Point) → Upto m k → Upto k t → Right b k) → Tale t m b []
    tale_end t m b r = record { true_told = λ q h. absurd (Memᴰ.not-nil h); all_told = λ i p k o u. absurd (nothing i p k o u); ordered = tt }
      where
        nothing : (i : Pair) → In i → (k : Point) → Owed b i m k → Upto k t → ⊥
        nothing i p k (inl x) u =
            not_itself (on_every_axis (b i)) (right_all b k i p (r k (sooner_upto m k x.0) u)
            ∙ K.turn_wrong i (on_every_axis (b i)) m k x.0 (λ j v w. right_all b j i p (r j v (upto_trans j k t (sooner_upto j k w) u))) x.1)
        nothing i p k (inr x) u = not_itself (on_every_axis (b i)) (right_all b k i p (r k x.0.0 u) ∙ x.1)

    -- ---- time goes on, and no bit is turned
    module _ (b : Pair → Axis → Bool) (m n : Point) (r : During (Right b) m n) where
      half_on : Sooner m n → Halfway b n
      half_on h i p a e = go n.stamp.after refl
        where
          go : (s : Bool) → n.stamp.after ≡ s → so i a n ≡ not n.stamp.after
          go false f = K.arrives i a m n h f (λ k u v. sym (r k u v i p a) ∙ e ∙ ap not f) ∙ sym (ap not f)
          go true f = K.stays_off i a m n h f (λ k u v. sym (r k u v i p a) ∙ e ∙ ap not f) ∙ sym (ap not f)

      half_at : Same m n → Halfway b m → Halfway b n
      half_at s h i p a e =
          let f = ap not (same_time m n s).1 in
          sym (K.same i a m n s) ∙ h i p a (e ∙ sym f) ∙ f

      pub half_goes : Upto m n → Halfway b m → Halfway b n
      half_goes u h = go (upto_out m n u)
        where
          go : (Sooner m n) ⊎ (Same m n) → Halfway b n
          go (inl x) = half_on x
          go (inr x) = half_at x h

      -- what was told until k, and turns or is wrong there
      wrong_at : (i : Pair) → In i → (k : Point) → Sooner m k → Upto k n → Turn i k → on_every_axis (λ a. so i a k) ≡ not (on_every_axis (b i))
      wrong_at i p k h u x = K.turn_wrong i (on_every_axis (b i)) m k h (λ j v w. right_all b j i p (r j v (sooner_upto_trans j k n w u))) x

      -- what was owed at m is owed at n
      owed_on : Sooner m n → (i : Pair) → In i → (k : Point) → Owed b i m k → Owed b i n k
      owed_on h i p k (inr x) = absurd (not_itself (on_every_axis (b i)) (right_all b k i p (r k x.0.0 (upto_sooner k m n x.0.1 h)) ∙ x.1))
      owed_on h i p k (inl x) = go (sooner_dec k n) (sooner_dec n k)
        where
          go : Dec (Sooner k n) → Dec (Sooner n k) → Owed b i n k
          go (yes y) z = absurd (not_itself (on_every_axis (b i)) (right_all b k i p (r k (sooner_upto m k x.0) y) ∙ wrong_at i p k x.0 (sooner_upto k n y) x.1))
          go (no y) (yes z) = inl (z, x.1)
          go (no y) (no z) = inr ((y, z), wrong_at i p k x.0 z x.1)

      owed_back : Sooner m n → (i : Pair) → In i → (k : Point) → Owed b i n k → Owed b i m k
      owed_back h i p k (inl x) = inl (sooner_trans m n k h x.0, x.1)
      owed_back h i p k (inr x) =
          let l = sooner_upto_trans m n k h x.0.0 in
          inl (l, K.wrong_turn i (on_every_axis (b i)) m k l (λ j u v. right_all b j i p (r j u (sooner_upto_trans j k n v x.0.1))) x.1)

      owed_at : (j k : Point) → Same j k → (i : Pair) (l : Point) → Owed b i j l → Owed b i k l
      owed_at j k s i l (inl x) = inl (upto_sooner k j l s.1 x.0, x.1)
      owed_at j k s i l (inr x) = inr (same_trans k j l (same_sym j k s) x.0, x.1)

      pub tale_goes : (t : Point) (rs : List Report) → Upto m n → Tale t n b rs → Tale t m b rs
      tale_goes t rs u tale = go (upto_out m n u)
        where
          go : (Sooner m n) ⊎ (Same m n) → Tale t m b rs
          go (inl h) = retold t m n b b rs (owed_back h) (owed_on h) tale
          go (inr s) = retold t m n b b rs (λ i p k o. owed_at n m (same_sym m n s) i k o) (λ i p k o. owed_at m n s i k o) tale

    -- ---- one bit that is wrong is turned
    module _ (m : Point) (b c : Pair → Axis → Bool) (i : Pair) (a : Axis) (p : In i) (w : so i a m ≡ not (b i a)) (f : c i a ≡ not (b i a))
        (others : (j : Pair) → In j → (d : Axis) → (j ≡ i → d ≡ a → ⊥) → c j d ≡ b j d) (h : Halfway b m) where
      pub half_flip : Halfway c m
      half_flip j q d e = go (pair_dec j i) (axis_dec d a)
        where
          else : (j ≡ i → d ≡ a → ⊥) → so j d m ≡ not m.stamp.after
          else n = h j q d (sym (others j q d n) ∙ e)

          go : Dec (j ≡ i) → Dec (d ≡ a) → so j d m ≡ not m.stamp.after
          go (yes x) (yes y) = (λ k. so (x k) (y k) m) ∙ w ∙ sym f ∙ sym (λ k. c (x k) (y k)) ∙ e
          go (no x) y = else (λ z _. x z)
          go (yes x) (no y) = else (λ _ z. y z)

      -- the pair's overlap by the bits changes: it was wrong and is right, and the side is that of the change
      right_now : (e : Bool) → on_every_axis (b i) ≡ e → on_every_axis (c i) ≡ not e → (on_every_axis (λ d. so i d m) ≡ not e) × (m.stamp.after ≡ e)
      right_now true x y = (some_off (λ d. so i d m) a off, late m.stamp.after refl)
        where
          set : b i a ≡ true
          set = every_set (b i) x a

          off : so i a m ≡ false
          off = w ∙ ap not set

          late : (s : Bool) → m.stamp.after ≡ s → m.stamp.after ≡ true
          late true g = g
          late false g = absurd (false_true (sym off ∙ h i p a (set ∙ sym (ap not g)) ∙ ap not g))
      right_now false x y = (every (λ d. so i d m) (λ _. true) all, early)
        where
          unset : b i a ≡ false
          unset = sym (not_not (b i a)) ∙ ap not (sym f ∙ every_set (c i) y a)

          on : so i a m ≡ true
          on = w ∙ ap not unset

          side_0 : (s : Bool) → m.stamp.after ≡ s → m.stamp.after ≡ false
          side_0 false g = g
          side_0 true g = absurd (false_true (sym (ap not g) ∙ sym (h i p a (unset ∙ sym (ap not g))) ∙ on))

          early : m.stamp.after ≡ false
          early = side_0 m.stamp.after refl

          all : (d : Axis) → so i d m ≡ true
          all d = go (axis_dec d a)
            where
              go : Dec (d ≡ a) → so i d m ≡ true
              go (yes z) = ap (λ (d : Axis). so i d m) z ∙ on
              go (no z) = h i p d (sym (others i p d (λ _ g. z g)) ∙ every_set (c i) y d ∙ sym (ap not early)) ∙ ap not early

      same_others : (j : Pair) → In j → (j ≡ i → ⊥) → on_every_axis (b j) ≡ on_every_axis (c j)
      same_others j q n = every (b j) (c j) (λ d. sym (others j q d (λ z _. n z)))

      module _ (t : Point) (rs : List Report) (u : Upto m t) (tale : Tale t m c rs) where
        quiet_flip : on_every_axis (b i) ≡ on_every_axis (c i) → Tale t m b rs
        quiet_flip e = tale_like t m b c rs (λ j q. go j q (pair_dec j i)) tale
          where
            go : (j : Pair) → In j → Dec (j ≡ i) → on_every_axis (b j) ≡ on_every_axis (c j)
            go j q (yes x) = subst (λ (j : Pair). on_every_axis (b j) ≡ on_every_axis (c j)) (sym x) e
            go j q (no x) = same_others j q x

        loud_flip : (e : Bool) → on_every_axis (b i) ≡ e → on_every_axis (c i) ≡ not e → Tale t m b (report i m.stamp ∷ rs)
        loud_flip e x y = record {
          true_told = λ r q. told r (Memᴰ.cases_cons q);
          all_told = λ j q k o v. owed_told j q k (pair_dec j i) o v;
          ordered = ((λ r q. in_order r (tale.true_told r q)), tale.ordered);
        }
          where
            right : on_every_axis (λ d. so i d m) ≡ on_every_axis (c i)
            right = (right_now e x y).0 ∙ sym y

            wrong : on_every_axis (λ d. so i d m) ≡ not (on_every_axis (b i))
            wrong = (right_now e x y).0 ∙ sym (ap not x)

            at_same : (k : Point) → Same m k → on_every_axis (λ d. so i d m) ≡ on_every_axis (λ d. so i d k)
            at_same k s = every (λ d. so i d m) (λ d. so i d k) (λ d. K.same i d m k s)

            -- the turned pair owes nothing more at m
            settled : (k : Point) → Same m k → on_every_axis (λ d. so i d k) ≡ not (on_every_axis (c i)) → ⊥
            settled k s z = not_itself (on_every_axis (c i)) (sym right ∙ at_same k s ∙ z)

            back : (j : Pair) → In j → (k : Point) → Dec (j ≡ i) → Owed c j m k → Owed b j m k
            back j q k (no n) o = owed_like c b m j k (sym (same_others j q n)) o
            back j q k (yes n) (inl z) = inl z
            back j q k (yes n) (inr z) = absurd (settled k z.0 (subst (λ (j : Pair). on_every_axis (λ d. so j d k) ≡ not (on_every_axis (c j))) n z.1))

            told : (r : Report) → (r ≡ report i m.stamp) ⊎ (r ∈ rs) → Entry t m b r
            told r (inl z) = record { pair = i; when = m; is = z; inside = p; upto = u; owed = inr ((upto_self m, upto_self m), wrong) }
            told r (inr z) =
                let g = tale.true_told r z in
                record { pair = g.pair; when = g.when; is = g.is; inside = g.inside; upto = g.upto; owed = back g.pair g.inside g.when (pair_dec g.pair i) g.owed }

            later : (j : Pair) (k : Point) → Told j k.stamp rs → Told j k.stamp (report i m.stamp ∷ rs)
            later j k z = (z.0, Memᴰ.tail z.1, z.2, z.3)

            owed_told : (j : Pair) → In j → (k : Point) → Dec (j ≡ i) → Owed b j m k → Upto k t → Told j k.stamp (report i m.stamp ∷ rs)
            owed_told j q k (no n) o v = later j k (tale.all_told j q k (owed_like b c m j k (same_others j q n) o) v)
            owed_told j q k (yes n) (inl z) v = later j k (tale.all_told j q k (inl z) v)
            owed_told j q k (yes n) (inr z) v =
                let g = same_time m k z.0 in
                (report i m.stamp, Memᴰ.head refl, (λ l. news_at (g.1 l) (sym n l)), g.0)

            upto_when : (r : Report) (g : Entry t m c r) → Upto m g.when
            upto_when r g = go g.owed
              where
                go : Owed c g.pair m g.when → Upto m g.when
                go (inl z) = sooner_upto m g.when z.0
                go (inr z) = z.0.0

            in_order : (r : Report) → Entry t m c r → InOrder (report i m.stamp) r
            in_order r g = subst (λ (r : Report). InOrder (report i m.stamp) r) (sym g.is) (record { times = (by_time out).0; meetings = λ s q. at_parting g.when.stamp.after g.pair ((by_time out).1 s (parting_at m.stamp.after i q)); once = once })
              where
                out : (Before m.stamp.time g.when.stamp.time) ⊎ (SameTime m.stamp.time g.when.stamp.time × (side m.stamp.after ≤ side g.when.stamp.after))
                out = not_earlier_out m.stamp g.when.stamp (upto_when r g)

                late_last : (x y : Bool) → side x ≤ side y → x ≡ true → y ≡ true
                late_last x true h e = refl
                late_last true false h e = absurd (omega arith)
                late_last false false h e = e

                by_time : (Before m.stamp.time g.when.stamp.time) ⊎ (SameTime m.stamp.time g.when.stamp.time × (side m.stamp.after ≤ side g.when.stamp.after)) →
                    NotAfter m.stamp.time g.when.stamp.time × (SameTime m.stamp.time g.when.stamp.time → m.stamp.after ≡ true → g.when.stamp.after ≡ true)
                by_time (inl z) = (omega arith, λ s _. absurd (omega (arith, s)))
                by_time (inr z) = (omega (arith, z.0), λ _ l. late_last m.stamp.after g.when.stamp.after z.1 l)

                once : ¬ (report i m.stamp ≡ report g.pair g.when.stamp)
                once z = go g.owed
                  where
                    news_same : news_at m.stamp.after i ≡ news_at g.when.stamp.after g.pair
                    news_same = ap (λ (r : Report). r.news) z

                    pairs : g.pair ≡ i
                    pairs = sym (pair_at g.when.stamp.after g.pair) ∙ ap pair_in (sym news_same) ∙ pair_at m.stamp.after i

                    stamps : g.when.stamp ≡ m.stamp
                    stamps = λ l. record { time = ap (λ (r : Report). r.time) (sym z) l; after = (sym (side_at g.when.stamp.after g.pair) ∙ ap side_in (sym news_same) ∙ side_at m.stamp.after i) l }

                    go : Owed c g.pair m g.when → ⊥
                    go (inl l) = upto_self m (subst (λ (k : Stamp). Earlier m.stamp k) stamps l.0)
                    go (inr l) = settled g.when l.0 (subst (λ (j : Pair). on_every_axis (λ d. so j d g.when) ≡ not (on_every_axis (c j))) pairs l.1)

        -- what the firing tells, then the rest
        pub tale_flip : Tale t m b (stepped_with m.stamp.time (news (on_every_axis (b i)) (on_every_axis (c i)) i.lower i.higher) ++ rs)
        tale_flip = go (on_every_axis (b i)) (on_every_axis (c i)) refl refl
          where
            at_side : (e : Bool) → m.stamp.after ≡ e → Tale t m b (report i m.stamp ∷ rs) → Tale t m b (record { time = m.stamp.time; news = news_at e i } ∷ rs)
            at_side e z q = subst (λ (e : Bool). Tale t m b (record { time = m.stamp.time; news = news_at e i } ∷ rs)) z q

            go : (x y : Bool) → on_every_axis (b i) ≡ x → on_every_axis (c i) ≡ y → Tale t m b (stepped_with m.stamp.time (news x y i.lower i.higher) ++ rs)
            go true true e g = quiet_flip (e ∙ sym g)
            go false false e g = quiet_flip (e ∙ sym g)
            go true false e g = at_side true (right_now true e g).1 (loud_flip true e g)
            go false true e g = at_side false (right_now false e g).1 (loud_flip false e g)
