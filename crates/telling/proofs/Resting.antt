-- A hall at rest stays so through every change at its quiet clock.
use Rattle.std.proofs.Common.{◌≡◌, ℕ, ◌<◌, ◌≤◌, true, false, ◌⊎◌, List, [], ◌∷◌, is_some, None, Option, sym, refl, ap, ◌∙◌, subst, inl, inr}
use mathlib.Core.List.Memᴰ
use Rattle.std.proofs.lemmas.Bool.{cases_Bool, both_ways}
use Rattle.rules.specs.Basics.{◌∈◌}
use Rattle.rules.specs.Fractions.{Fraction, Usual}
use Rattle.rules.specs.Stamps.{Stamp, at}
use Rattle.rules.specs.Paths.{Kept}
use Rattle.rules.specs.Books.{Book, path, follows, BookChange, changed}
use Rattle.rules.specs.Boxes.{Box}
use Rattle.model.specs.Halls.{Craft, Hall, with_book, all_craft, in_hall, entered}
use Rattle.model.specs.Moves.{each, craft_of, enter, leave, craft_set, followers, change}
use Rattle.events.specs.Machine.{Rested}
use Rattle.events.specs.Changes.{Stays, ChangesRest}
use Rattle.accounts.proofs.Puts.{put_here, put_other, those_in, in_those}
use Rattle.accounts.proofs.Frames.{craft_below, below_craft}
use Rattle.telling.proofs.Effects.{Written, each_written}
use Rattle.telling.proofs.Moved.{enter_amid, leave_amid}
use Rattle.certified.specs.Histories.{sky_of, core_of}
use Rattle.telling.proofs.Skies.{Good}
use Rattle.telling.proofs.Firing.{flying}
use Rattle.telling.proofs.Steps.{KeptPaths, kept_on}
use Rattle.telling.proofs.Changing.{enter_good, enter_changed, leave_good, leave_changed}

-- at a quiet clock at t
pub record Resting (w : ℕ) (w8 : w ≤ 8) (t : Fraction) (m : Hall) : Type 0 where
  pub good : Good m
  pub kept : KeptPaths w w8 m
  pub rested : Rested (sky_of m) t (core_of m)

-- a filing or ride moves the path of no craft that does not follow the one changed
abbrev pub PathsStay : Type 0
PathsStay = (x : BookChange) (b : Book) (d : ℕ) → follows b (craft_set x) d ≡ false → path (changed x b) d ≡ path b d

module _ (rest : ChangesRest) (w : ℕ) (w8 : w ≤ 8) (t : Fraction) (ut : Usual t) where
  pub enter_rests : (m : Hall) (c : ℕ) (x : Box) → c < 64 → Resting w w8 t m → Resting w w8 t (enter c x (at t) m).hall
  enter_rests m c x hc r = record {
    good = enter_good w w8 t ut m r.good r.kept c hc x;
    kept = kept_on w w8 m (enter c x (at t) m).hall (enter_amid c x (at t) m).0 r.kept;
    rested = rest (sky_of m) (sky_of (enter c x (at t) m).hall) t ut.proper (core_of m) (core_of (enter c x (at t) m).hall) r.rested (enter_changed w w8 t ut m r.good r.kept c hc x);
  }

  pub leave_rests : (m : Hall) (c : ℕ) → c < 64 → Resting w w8 t m → Resting w w8 t (leave c m).hall
  leave_rests m c hc r = record {
    good = leave_good t m r.good c hc;
    kept = kept_on w w8 m (leave c m).hall (leave_amid c m).0 r.kept;
    rested = rest (sky_of m) (sky_of (leave c m).hall) t ut.proper (core_of m) (core_of (leave c m).hall) r.rested (leave_changed t m r.good c hc);
  }

  -- the paths of those that are entered stay
  pub book_rests : (m : Hall) (b : Book) → ((c : ℕ) → Kept w (path b c)) → ((d : ℕ) → in_hall m d ≡ true → path b d ≡ path m.book d) → Resting w w8 t m → Resting w w8 t (with_book b m)
  book_rests m b kept same r = record {
    good = record { low = r.good.low; live = r.good.live; neat = r.good.neat; slow = r.good.slow };
    kept = kept;
    rested = rest (sky_of m) (sky_of (with_book b m)) t ut.proper (core_of m) (core_of (with_book b m)) r.rested (record {
      craft = λ d f. inl (stays d (flying m d f));
      pairs = λ i p a. inl (record { first = stays i.lower (flying m i.lower p.first); second = stays i.higher (flying m i.higher p.second); bit = refl; fails = refl });
    });
  }
    where
      stays : (d : ℕ) → in_hall m d ≡ true → Stays (sky_of m) (sky_of (with_book b m)) (core_of m) (core_of (with_book b m)) d
      stays d f = record { box = refl; path = same d f; leg = λ a. refl; turn = refl }

  leave_all : (ds : List ℕ) → ((d : ℕ) → d ∈ ds → d < 64) → (m : Hall) → Resting w w8 t m → Resting w w8 t (each leave ds m).hall
  leave_all [] low m r = r
  leave_all (d ∷ ds) low m r = leave_all ds (λ e p. low e (Memᴰ.tail p)) (leave d m).hall (leave_rests m d (low d (Memᴰ.head refl)) r)

  enter_all : (f : ℕ → Box) (ds : List ℕ) → ((d : ℕ) → d ∈ ds → d < 64) → (m : Hall) → Resting w w8 t m → Resting w w8 t (each (λ d. enter d (f d) (at t)) ds m).hall
  enter_all f [] low m r = r
  enter_all f (d ∷ ds) low m r = enter_all f ds (λ e p. low e (Memᴰ.tail p)) (enter d (f d) (at t) m).hall (enter_rests m d (f d) (low d (Memᴰ.head refl)) r)

-- ---- the book after each, and who is out
leave_book : (ds : List ℕ) (m : Hall) → (each leave ds m).hall.book ≡ m.book
leave_book [] m = refl
leave_book (d ∷ ds) m = leave_book ds (leave d m).hall ∙ (leave_amid d m).0

enter_book : (f : ℕ → Box) (k : Stamp) (ds : List ℕ) (m : Hall) → (each (λ d. enter d (f d) k) ds m).hall.book ≡ m.book
enter_book f k [] m = refl
enter_book f k (d ∷ ds) m = enter_book f k ds (enter d (f d) k m).hall ∙ (enter_amid d (f d) k m).0

left_boxes : (ds : List ℕ) (m : Hall) (s : ℕ) → Written ds (λ d. d) (λ d. None) m.craft (each leave ds m).hall.craft s
left_boxes ds m s = each_written leave (λ h. h.craft) (λ h. Unit {0}) (λ d. d) (λ d. None) (λ d h i. tt)
    (λ d h i. (λ j. (leave_amid d h).1 j d) ∙ put_here h.craft d None)
    (λ d h i e n. (λ j. (leave_amid d h).1 j e) ∙ put_other h.craft d None e n) ds m tt s

-- ---- followers
pub record Follower (c : ℕ) (m : Hall) (d : ℕ) : Type 0 where
  pub low : d < 64
  pub here : in_hall m d ≡ true
  pub after : follows m.book c d ≡ true

followers_out : (c : ℕ) (m : Hall) (d : ℕ) → d ∈ followers c m → Follower c m d
followers_out c m d e =
    let z = those_in (follows m.book c) (entered m) d e in
    let y = those_in (in_hall m) all_craft d z.0 in
    record { low = craft_below d y.0; here = y.1; after = z.1 }

followers_in : (c : ℕ) (m : Hall) (d : ℕ) → Follower c m d → d ∈ followers c m
followers_in c m d f = in_those (follows m.book c) (entered m) d (in_those (in_hall m) all_craft d (below_craft d f.low) f.here) f.after

-- ---- a change of the book
module _ (x : BookChange) (k : Stamp) (m : Hall) where
  abbrev left_hall : Hall
  left_hall = (each leave (followers (craft_set x) m) m).hall

  abbrev open_hall : Hall
  open_hall = with_book (changed x left_hall.book) left_hall

  pub change_book : (change x k m).hall.book ≡ changed x m.book
  change_book = enter_book (λ d. (craft_of d m).box) k (followers (craft_set x) m) open_hall ∙ ap (changed x) (leave_book (followers (craft_set x) m) m)

  -- whoever is entered while the followers are out does not follow
  out_paths : PathsStay → ((c : ℕ) → in_hall m c ≡ true → c < 64) → (d : ℕ) → in_hall left_hall d ≡ true → path (changed x left_hall.book) d ≡ path left_hall.book d
  out_paths stay low d f =
      subst (λ (b : Book). path (changed x b) d ≡ path b d) (sym (leave_book (followers (craft_set x) m) m)) (stay x m.book d (by (left_boxes (followers (craft_set x) m) m d) (cases_Bool (follows m.book (craft_set x) d))))
    where
      by : Written (followers (craft_set x) m) (λ d. d) (λ d. None) m.craft left_hall.craft d → (follows m.book (craft_set x) d ≡ true) ⊎ (follows m.book (craft_set x) d ≡ false) → follows m.book (craft_set x) d ≡ false
      by w (inr n) = n
      by (inl w) (inl y) = absurd (both_ways (in_hall left_hall d) (ap (λ (o : Option Craft). is_some o) w.3) f)
      by (inr w) (inl y) =
          let im : in_hall m d ≡ true = sym (ap (λ (o : Option Craft). is_some o) w.1) ∙ f in
          absurd (w.0 d (followers_in (craft_set x) m d (record { low = low d im; here = im; after = y })) refl)

pub change_rests : ChangesRest → PathsStay → (w : ℕ) (w8 : w ≤ 8) (t : Fraction) → Usual t → (x : BookChange) (m : Hall) → ((c : ℕ) → Kept w (path (changed x m.book) c)) → Resting w w8 t m → Resting w w8 t (change x (at t) m).hall
change_rests rest stay w w8 t ut x m kept r =
    let low : (d : ℕ) → d ∈ followers (craft_set x) m → d < 64 = λ d e. (followers_out (craft_set x) m d e).low in
    enter_all rest w w8 t ut (λ d. (craft_of d m).box) (followers (craft_set x) m) low (open_hall x (at t) m)
    (book_rests rest w w8 t ut (left_hall x (at t) m) (changed x (left_hall x (at t) m).book)
    (λ c. subst (λ (b : Book). Kept w (path (changed x b) c)) (sym (leave_book (followers (craft_set x) m) m)) (kept c))
    (out_paths x (at t) m stay r.good.low)
    (leave_all rest w w8 t ut (followers (craft_set x) m) low m r))
