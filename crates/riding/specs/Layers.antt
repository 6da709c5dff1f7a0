-- A layer over a book: its paths, followers, refusals and changes by those of the book below.
use Rattle.std.specs.Prelude.{◌≡◌, ℕ, zero, suc, ◌*◌, ◌<◌, ◌≤◌, Bool, true, false, cond, not, ◌||◌, ◌⊎◌, [], ◌∷◌, Some, None, Option, ◌==◌, nat_le, nat_lt, refl}
use Rattle.std.proofs.Common.{sym, ap, ap₂, ◌∙◌, inl, inr, arith, eq-eqb}
use Rattle.std.proofs.Math.Path.{fun_ext}
use Rattle.std.proofs.Math.Decide.{dec_lt}
use Rattle.std.proofs.lemmas.Bool.{cases_Bool, eqb-true, le-leb, lt-leb, leb-false}
use Rattle.rules.specs.Basics.{put, first_fit}
use Rattle.rules.specs.Paths.{Path}
use Rattle.rules.specs.Plans.{Plan, plan_right}
use Rattle.rules.specs.Books.{Book, BookChange, file, ride, changed, changed_unless, book_refusal, layered, path, path_at, carried, follows, follows_at, in_seat, out_of_range, carrier_out, carrier_is}
use Rattle.books.proofs.Followers.{put_other}
use Rattle.books.specs.Owns.{frames_stay}
use Rattle.riding.specs.Layer.{added, seat_refusal, sat_unless, sat}

-- a layer that adds a level, and one that does not
abbrev pub lifted : (ℕ → Option ℕ) → Book → Book
lifted s b = record { own = b.own; levels = suc b.levels; seat = put b.seat b.levels s; limit = b.limit; scale = 2 * b.scale }

abbrev pub capped : Book → Book
capped b = record { own = b.own; levels = b.levels; seat = b.seat; limit = b.limit; scale = 9 }

abbrev pub lay : Bool → (ℕ → Option ℕ) → Book → Book
lay t s b = cond t (lifted s b) (capped b)

book_≡ : (l m n : ℕ) (own : ℕ → Path) (f g : ℕ → ℕ → Option ℕ) → f ≡ g → ◌≡◌ {A = Book} (record { own = own; levels = l; seat = f; limit = m; scale = n }) (record { own = own; levels = l; seat = g; limit = m; scale = n })
book_≡ l m n own f g e = λ i. record { own = own; levels = l; seat = e i; limit = m; scale = n }

put_here : {A : Type 0} (f : ℕ → A) (c : ℕ) (v : A) → put f c v c ≡ v
put_here f c v = ap (λ (b : Bool). cond b v (f c)) (eq-eqb c c refl)

-- PATHS AND FOLLOWERS

module _ (s : ℕ → Option ℕ) (b : Book) where
  path_below : (j : ℕ) → j ≤ b.levels → path_at (lifted s b) j ≡ path_at b j
  path_below zero h = refl
  path_below (suc j) h =
      let e : put b.seat b.levels s j ≡ b.seat j = put_other b.seat b.levels j s (λ q. omega arith) in
      let f = path_below j (omega arith) in
      fun_ext (λ c. ap₂ (λ (p : ℕ → Path) (t : ℕ → Option ℕ). carried p c (t c)) f e)

  follows_below : (j : ℕ) → j ≤ b.levels → follows_at (lifted s b) j ≡ follows_at b j
  follows_below zero h = refl
  follows_below (suc j) h =
      let e : put b.seat b.levels s j ≡ b.seat j = put_other b.seat b.levels j s (λ q. omega arith) in
      let f = follows_below j (omega arith) in
      fun_ext (λ c. fun_ext (λ d. ap₂ (λ (p : ℕ → ℕ → Bool) (t : ℕ → Option ℕ). p c d || in_seat (p c) (t d)) f e))

  lifted_path : (c : ℕ) → path (lifted s b) c ≡ carried (path b) c (s c)
  lifted_path c = ap₂ (λ (p : ℕ → Path) (t : ℕ → Option ℕ). carried p c (t c)) (path_below b.levels (omega arith)) (put_here b.seat b.levels s)

  lifted_follows : (c d : ℕ) → follows (lifted s b) c d ≡ (follows b c d || in_seat (follows b c) (s d))
  lifted_follows c d = ap₂ (λ (p : ℕ → ℕ → Bool) (t : ℕ → Option ℕ). p c d || in_seat (p c) (t d)) (follows_below b.levels (omega arith)) (put_here b.seat b.levels s)

-- another scale changes no path and no follower
same_path : (b e : Book) → b.own ≡ e.own → b.seat ≡ e.seat → (j c : ℕ) → path_at b j c ≡ path_at e j c
same_path b e p q zero c = ap (λ (f : ℕ → Path). f c) p
same_path b e p q (suc j) c =
    let f : path_at b j ≡ path_at e j = fun_ext (λ d. same_path b e p q j d) in
    ap₂ (λ (r : ℕ → Path) (t : ℕ → ℕ → Option ℕ). carried r c (t j c)) f q

same_follows : (b e : Book) → b.seat ≡ e.seat → (j c d : ℕ) → follows_at b j c d ≡ follows_at e j c d
same_follows b e q zero c d = refl
same_follows b e q (suc j) c d =
    let f : follows_at b j c ≡ follows_at e j c = fun_ext (λ k. same_follows b e q j c k) in
    ap₂ (λ (r : ℕ → Bool) (t : ℕ → ℕ → Option ℕ). r d || in_seat r (t j d)) f q

or_false : (x : Bool) → x ≡ (x || false)
or_false true = refl
or_false false = refl

pub layered_path : (s : ℕ → Option ℕ) (b : Book) (c : ℕ) → path (layered s b) c ≡ carried (path b) c (added s b c)
layered_path s b c = by (nat_le b.scale 4)
  where
    by : (t : Bool) → path (lay t s b) c ≡ carried (path b) c (cond t (s c) None)
    by true = lifted_path s b c
    by false = same_path (capped b) b refl refl b.levels c

pub layered_follows : (s : ℕ → Option ℕ) (b : Book) (c d : ℕ) → follows (layered s b) c d ≡ (follows b c d || in_seat (follows b c) (added s b d))
layered_follows s b c d = by (nat_le b.scale 4)
  where
    by : (t : Bool) → follows (lay t s b) c d ≡ (follows b c d || in_seat (follows b c) (cond t (s d) None))
    by true = lifted_follows s b c d
    by false = same_follows (capped b) b refl b.levels c d ∙ or_false (follows b c d)

-- NUMBERS

pub layered_limit : (s : ℕ → Option ℕ) (b : Book) → (layered s b).limit ≡ b.limit
layered_limit s b = elim (nat_le b.scale 4) as (λ t. (lay t s b).limit ≡ b.limit) [ true ↦ refl | false ↦ refl ]

pub layered_scale : (s : ℕ → Option ℕ) (b : Book) → (layered s b).scale ≡ cond (nat_le b.scale 4) (2 * b.scale) 9
layered_scale s b = elim (nat_le b.scale 4) as (λ t. (lay t s b).scale ≡ cond t (2 * b.scale) 9) [ true ↦ refl | false ↦ refl ]

pub layered_levels : (s : ℕ → Option ℕ) (b : Book) → (layered s b).levels ≡ cond (nat_le b.scale 4) (suc b.levels) b.levels
layered_levels s b = elim (nat_le b.scale 4) as (λ t. (lay t s b).levels ≡ cond t (suc b.levels) b.levels) [ true ↦ refl | false ↦ refl ]

-- FILINGS

pub file_refusal : (s : ℕ → Option ℕ) (b : Book) (c : ℕ) (p : Plan) → book_refusal (file c p) (layered s b) ≡ book_refusal (file c p) b
file_refusal s b c p = ap (λ (n : ℕ). first_fit ((2, out_of_range c) ∷ (8, not (plan_right p)) ∷ (9, nat_lt n p.count) ∷ [])) (layered_limit s b)

-- the scale of the changed book is that of the book
over_changed : (s : ℕ → Option ℕ) (b : Book) (x : BookChange) → layered s (changed x b) ≡ lay (nat_le b.scale 4) s (changed x b)
over_changed s b x = ap (λ (n : ℕ). lay (nat_le n 4) s (changed x b)) (frames_stay x b).scale

pub file_layered : (s : ℕ → Option ℕ) (b : Book) (c : ℕ) (p : Plan) → layered s (changed (file c p) b) ≡ changed (file c p) (layered s b)
file_layered s b c p =
    over_changed s b (file c p)
    ∙ by (nat_le b.scale 4) (book_refusal (file c p) b)
    ∙ ap (λ (o : Option ℕ). changed_unless o (file c p) (layered s b)) (sym (file_refusal s b c p))
  where
    by : (t : Bool) (o : Option ℕ) → lay t s (changed_unless o (file c p) b) ≡ changed_unless o (file c p) (lay t s b)
    by true (Some n) = refl
    by true None = refl
    by false (Some n) = refl
    by false None = refl

-- LOWER RIDES

-- the level is not the one that the layer adds
abbrev pub Lower : ℕ → Book → Type 0
Lower j b = nat_le b.scale 4 ≡ true → ¬ (j ≡ b.levels)

level_same : (j l : ℕ) → ¬ (j ≡ l) → nat_le (suc l) j ≡ nat_le l j
level_same j l n = by (dec_lt l j)
  where
    by : Dec (l < j) → nat_le (suc l) j ≡ nat_le l j
    by (yes h) = le-leb (suc l) j h ∙ sym (le-leb l j (omega arith))
    by (no h) = lt-leb (suc l) j (omega arith) ∙ sym (lt-leb l j (omega arith))

lower_levels : (t : Bool) (s : ℕ → Option ℕ) (b : Book) (j : ℕ) → (t ≡ true → ¬ (j ≡ b.levels)) → nat_le (lay t s b).levels j ≡ nat_le b.levels j
lower_levels true s b j n = level_same j b.levels (n refl)
lower_levels false s b j n = refl

pub ride_refusal : (s : ℕ → Option ℕ) (b : Book) (c j : ℕ) (k : Option ℕ) → Lower j b → book_refusal (ride c j k) (layered s b) ≡ book_refusal (ride c j k) b
ride_refusal s b c j k n = ap (λ (t : Bool). first_fit ((2, out_of_range c || carrier_out k) ∷ (3, carrier_is k c) ∷ (10, t) ∷ [])) (lower_levels (nat_le b.scale 4) s b j n)

accepted_level : (a d e : Bool) → first_fit ((2, a) ∷ (3, d) ∷ (10, e) ∷ []) ≡ None → e ≡ false
accepted_level true d e q = absurd (let z : ◌≡◌ {A = ℕ} 0 1 = cc in omega arith)
accepted_level false true e q = absurd (let z : ◌≡◌ {A = ℕ} 0 1 = cc in omega arith)
accepted_level false false true q = absurd (let z : ◌≡◌ {A = ℕ} 0 1 = cc in omega arith)
accepted_level false false false q = refl

-- two different levels are set in either order
puts_commute : {A : Type 0} (f : ℕ → A) (j l : ℕ) (u v : A) → ¬ (j ≡ l) → put (put f j u) l v ≡ put (put f l v) j u
puts_commute {A} f j l u v n = fun_ext (λ i. by i (cases_Bool (i == l)) (cases_Bool (i == j)))
  where
    by : (i : ℕ) → ((i == l) ≡ true) ⊎ ((i == l) ≡ false) → ((i == j) ≡ true) ⊎ ((i == j) ≡ false) → cond (i == l) v (cond (i == j) u (f i)) ≡ cond (i == j) u (cond (i == l) v (f i))
    by i (inl p) (inl q) = absurd (n (sym (eqb-true i j q) ∙ eqb-true i l p))
    by i (inl p) (inr q) = rw (p, q) refl
    by i (inr p) (inl q) = rw (p, q) refl
    by i (inr p) (inr q) = rw (p, q) refl

pub ride_layered : (s : ℕ → Option ℕ) (b : Book) (c j : ℕ) (k : Option ℕ) → Lower j b → layered s (changed (ride c j k) b) ≡ changed (ride c j k) (layered s b)
ride_layered s b c j k n =
    over_changed s b (ride c j k)
    ∙ by (nat_le b.scale 4) (book_refusal (ride c j k) b) refl
    ∙ ap (λ (o : Option ℕ). changed_unless o (ride c j k) (layered s b)) (sym (ride_refusal s b c j k n))
  where
    by : (t : Bool) (o : Option ℕ) → book_refusal (ride c j k) b ≡ o → lay t s (changed_unless o (ride c j k) b) ≡ changed_unless o (ride c j k) (lay t s b)
    by true (Some m) e = refl
    by false (Some m) e = refl
    by false None e = refl
    by true None e =
        let l = leb-false b.levels j (accepted_level (out_of_range c || carrier_out k) (carrier_is k c) (nat_le b.levels j) e) in
        let m : ¬ (j ≡ b.levels) = λ q. omega arith in
        book_≡ (suc b.levels) b.limit (2 * b.scale) b.own _ _
        (puts_commute b.seat j b.levels (put (b.seat j) c k) s m
        ∙ ap (λ (f : ℕ → Option ℕ). put (put b.seat b.levels s) j (put f c k)) (sym (put_other b.seat b.levels j s m)))

-- RIDES AT THE LEVEL THAT THE LAYER ADDS

first_two : (a d : Bool) → first_fit ((2, a) ∷ (3, d) ∷ (10, false) ∷ []) ≡ first_fit ((2, a) ∷ (3, d) ∷ [])
first_two true d = refl
first_two false true = refl
first_two false false = refl

pub seat_refused : (s : ℕ → Option ℕ) (b : Book) (c : ℕ) (k : Option ℕ) → nat_le b.scale 4 ≡ true → book_refusal (ride c b.levels k) (layered s b) ≡ seat_refusal c k
seat_refused s b c k t =
    ap (λ (x : Bool). book_refusal (ride c b.levels k) (lay x s b)) t
    ∙ ap (λ (x : Bool). first_fit ((2, out_of_range c || carrier_out k) ∷ (3, carrier_is k c) ∷ (10, x) ∷ [])) (lt-leb (suc b.levels) b.levels (omega arith))
    ∙ first_two (out_of_range c || carrier_out k) (carrier_is k c)

put_twice : {A : Type 0} (f : ℕ → A) (l : ℕ) (u v : A) → put (put f l u) l v ≡ put f l v
put_twice {A} f l u v = fun_ext (λ i. by i (i == l))
  where
    by : (i : ℕ) (t : Bool) → cond t v (cond t u (f i)) ≡ cond t v (f i)
    by i true = refl
    by i false = refl

pub seat_layered : (s : ℕ → Option ℕ) (b : Book) (c : ℕ) (k : Option ℕ) → nat_le b.scale 4 ≡ true → layered (sat c k s) b ≡ changed (ride c b.levels k) (layered s b)
seat_layered s b c k t =
    ap (λ (x : Bool). lay x (sat c k s) b) t
    ∙ by (seat_refusal c k)
    ∙ ap (λ (x : Bool). changed_unless (seat_refusal c k) (ride c b.levels k) (lay x s b)) (sym t)
    ∙ ap (λ (o : Option ℕ). changed_unless o (ride c b.levels k) (layered s b)) (sym (seat_refused s b c k t))
  where
    by : (o : Option ℕ) → lifted (sat_unless o c k s) b ≡ changed_unless o (ride c b.levels k) (lifted s b)
    by (Some n) = refl
    by None =
        book_≡ (suc b.levels) b.limit (2 * b.scale) b.own _ _
        (sym (put_twice b.seat b.levels s (put s c k))
        ∙ ap (λ (f : ℕ → Option ℕ). put (put b.seat b.levels s) b.levels (put f c k)) (sym (put_here b.seat b.levels s)))
