-- Steps: what is due is what fails first, and a chain of steps is a run of the machine.
use Rattle.std.proofs.Common.{◌≡◌, ℕ, ◌-◌, ◌^◌, ◌<◌, ◌≤◌, Bool, true, false, cond, ltb, ◌⊎◌, List, [], ◌∷◌, ◌++◌, Some, None, Option, sym, refl, ap, ◌∙◌, subst, inl, inr, append_assoc, arith, le-ltb, lt-ltb}
use mathlib.Core.List.Memᴰ
use Rattle.std.proofs.lemmas.Bool.{cases_Bool, both_ways}
use Rattle.rules.specs.Basics.{◌∈◌}
use Rattle.rules.specs.Fractions.{Fraction, Proper, Usual}
use Rattle.rules.specs.Stamps.{Stamp, at, is_earlier}
use Rattle.rules.specs.Paths.{Axis, Kept}
use Rattle.rules.specs.Books.{Book, path}
use Rattle.rules.specs.Slots.{slot, leg_slot, first, First, LeastSlot}
use Rattle.rules.specs.Pages.{News, met, parted, Report}
use Rattle.model.specs.Halls.{Hall, in_hall, together, due_by, next_due}
use Rattle.model.specs.Moves.{lower_of, higher_of, fired, take_away, then, fire_leg, fire_kind, fire}
use Rattle.model.specs.Runs.{news, news_in, step}
use Rattle.model.specs.Histories.{stepped_with}
use Rattle.pages.specs.Laws.{CraftFit, ReportFits, ReportsFit}
use Rattle.queues.specs.Laws.{Held}
use Rattle.queues.proofs.Firsts.{first_right, soonest_first, some_none, some_some, not_earlier_chain}
use Rattle.events.specs.Machine.{Sky, Quiet, Fires, bit_fires, leg_fires, Runs}
use Rattle.events.specs.Machine as machine
use Rattle.telling.proofs.Places.{slot_low, slot_lower, slot_higher}
use Rattle.telling.proofs.Moved.{leg_amidst}
use Rattle.certified.specs.Histories.{sky_of, core_of}
use Rattle.telling.proofs.Skies.{two, Live, Good}
use Rattle.telling.proofs.Firing.{bit_flips, bit_good, leg_sky, leg_rereads, leg_good}

-- ---- what is due
due_out : (g : Fraction) (o : Option (ℕ × Stamp)) (f : ℕ × Stamp) → due_by g o ≡ Some f → (o ≡ Some f) × (is_earlier (at g) f.1 ≡ false)
due_out g None f e = let z : ◌≡◌ {A = ℕ} 0 1 = cc in absurd (omega arith)
due_out g (Some x) f e = by (is_earlier (at g) x.1) refl e
  where
    by : (b : Bool) → is_earlier (at g) x.1 ≡ b → cond b None (Some x) ≡ Some f → (◌≡◌ {A = Option (ℕ × Stamp)} (Some x) (Some f)) × (is_earlier (at g) f.1 ≡ false)
    by true t e = let z : ◌≡◌ {A = ℕ} 0 1 = cc in absurd (omega arith)
    by false t e = let z : x ≡ f = cc in (e, subst (λ (y : ℕ × Stamp). is_earlier (at g) y.1 ≡ false) z t)

due_in : (g : Fraction) (o : Option (ℕ × Stamp)) (f : ℕ × Stamp) → o ≡ Some f → is_earlier (at g) f.1 ≡ false → due_by g o ≡ Some f
due_in g o f e t = ap (due_by g) e ∙ ap (λ (b : Bool). cond b None (Some f)) t

due_none : (g : Fraction) (o : Option (ℕ × Stamp)) → due_by g o ≡ None → (o ≡ None) ⊎ ((f : ℕ × Stamp) × (o ≡ Some f) × (is_earlier (at g) f.1 ≡ true))
due_none g None e = inl refl
due_none g (Some x) e = by (is_earlier (at g) x.1) refl e
  where
    by : (b : Bool) → is_earlier (at g) x.1 ≡ b → cond b None (Some x) ≡ None → (◌≡◌ {A = Option (ℕ × Stamp)} (Some x) None) ⊎ ((f : ℕ × Stamp) × (◌≡◌ {A = Option (ℕ × Stamp)} (Some x) (Some f)) × (is_earlier (at g) f.1 ≡ true))
    by true t e = inr (x, refl, t)
    by false t e = let z : ◌≡◌ {A = ℕ} 0 1 = cc in absurd (omega arith)

module _ (m : Hall) (g : Good m) where
  live_low : (s : ℕ) → Live (in_hall m) s → s < 12352
  live_low s (inl w) = let z = slot_low w.0 w.1 w.2 w.3 (g.low w.2 w.5) in omega (arith, z, w.6)
  live_low s (inr w) = let z = g.low w.0 w.1 in omega (arith, z, w.2)

  held : Held m.queue
  held = record {
    within = λ s h. by s h (m.queue s) refl;
    proper = λ s k e. (g.neat s k e).proper;
  }
    where
      by : (s : ℕ) → 12352 ≤ s → (o : Option Stamp) → m.queue s ≡ o → m.queue s ≡ None
      by s h None e = e
      by s h (Some k) e = let z = live_low s (g.live s k e) in absurd (omega arith)

  first_is : (o : Option (ℕ × Stamp)) → first m.queue ≡ o → First m.queue o
  first_is o e = subst (λ (x : Option (ℕ × Stamp)). First m.queue x) (soonest_first m.queue ∙ e) (first_right m.queue held)

  -- what is due fails first, and not after the goal
  pub due_first : (t : Fraction) (f : ℕ × Stamp) → next_due t m ≡ Some f → LeastSlot m.queue f.0 f.1 × (is_earlier (at t) f.1 ≡ false)
  due_first t f e = let z = due_out t (first m.queue) f e in (first_is (Some f) z.0, z.1)

  -- and a later goal changes nothing about that
  pub due_later : (s t : Fraction) (f : ℕ × Stamp) → Proper s → Proper t → is_earlier (at t) (at s) ≡ false → next_due s m ≡ Some f → next_due t m ≡ Some f
  due_later s t f ps pt h e =
      let z = due_out s (first m.queue) f e in
      let p = (g.neat f.0 f.1 (due_first s f e).0.here).proper in
      due_in t (first m.queue) f z.0 (not_earlier_chain f.1 (at s) (at t) p ps pt z.1 h)

  -- where nothing is due every certificate fails later
  pub not_due : (t : Fraction) → Proper t → next_due t m ≡ None → (s : ℕ) (k : Stamp) → m.queue s ≡ Some k → is_earlier (at t) k ≡ true
  not_due t pt e s k q = by (due_none t (first m.queue) e)
    where
      by : (first m.queue ≡ None) ⊎ ((f : ℕ × Stamp) × (first m.queue ≡ Some f) × (is_earlier (at t) f.1 ≡ true)) → is_earlier (at t) k ≡ true
      by (inl z) = some_none (m.queue s) k (first_is None z s) q
      by (inr z) = pick (cases_Bool (is_earlier (at t) k))
        where
          l : LeastSlot m.queue z.0.0 z.0.1
          l = first_is (Some z.0) z.1

          pick : (is_earlier (at t) k ≡ true) ⊎ (is_earlier (at t) k ≡ false) → is_earlier (at t) k ≡ true
          pick (inl r) = r
          pick (inr r) = absurd (both_ways (is_earlier (at t) z.0.1)
              (not_earlier_chain z.0.1 k (at t) (g.neat z.0.0 z.0.1 l.here).proper (g.neat s k q).proper pt (l.least s k q) r) z.2)

  pub quiet_now : (t : Fraction) → Proper t → next_due t m ≡ None → Quiet (sky_of m) (core_of m) t
  quiet_now t pt e = record { bits = λ i p a k q. not_due t pt e _ k q; legs = λ c f k q. not_due t pt e _ k q }

-- ---- a step
-- by whether the slot is a bit's
pub record FiredAs (m : Hall) (s : ℕ) (k : Stamp) (b : Bool) : Type 0 where
  pub same_sky : sky_of (then (take_away fired s) (fire_kind b s k) m).hall ≡ sky_of m
  pub same_book : (then (take_away fired s) (fire_kind b s k) m).hall.book ≡ m.book
  pub good : Good (then (take_away fired s) (fire_kind b s k) m).hall
  pub fires : Fires (sky_of m) k (core_of m) (core_of (then (take_away fired s) (fire_kind b s k) m).hall) (stepped_with k.time (cond b (news_in s m (then (take_away fired s) (fire_kind b s k) m).hall) None))

abbrev pub Fired : Hall → ℕ → Stamp → Type 0
Fired m s k = FiredAs m s k (ltb s 12288)

module _ (w : ℕ) (w8 : w ≤ 8) (m : Hall) (g : Good m) (kept : (c : ℕ) → Kept w (path m.book c)) where
  bit_step : (a : Axis) (c d : ℕ) (k : Stamp) → c < d → in_hall m c ≡ true → in_hall m d ≡ true → m.queue (slot a c d) ≡ Some k → FiredAs m (slot a c d) k true
  bit_step a c d k p ic id e = record {
    same_sky = refl;
    same_book = refl;
    good = bit_good m g k uk a c d p ic id e;
    fires = subst (λ (rs : List Report). Fires (sky_of m) k (core_of m) (core_of h) rs) told (bit_fires (two c d) a (bit_flips m g k uk a c d p ic id e));
  }
    where
      h : Hall
      h = (then (take_away fired (slot a c d)) (fire_kind true (slot a c d) k) m).hall

      uk : Usual k.time
      uk = g.neat (slot a c d) k e

      q : d < 64
      q = g.low d id

      told : machine.telling (core_of m) (core_of (then (take_away fired (slot a c d)) (fire_kind true (slot a c d) k) m).hall) (two c d) k ≡ stepped_with k.time (news_in (slot a c d) m (then (take_away fired (slot a c d)) (fire_kind true (slot a c d) k) m).hall)
      told = λ i. stepped_with k.time (news (together (sym (slot_lower a c d p q) i) (sym (slot_higher a c d p q) i) m) (together (sym (slot_lower a c d p q) i) (sym (slot_higher a c d p q) i) (then (take_away fired (slot a c d)) (fire_kind true (slot a c d) k) m).hall) (sym (slot_lower a c d p q) i) (sym (slot_higher a c d p q) i))

  -- over the craft that the slot is decoded to
  pub record LegStep (c d : ℕ) (k : Stamp) : Type 0 where
    pub same_sky : sky_of (then (take_away fired (leg_slot c)) (fire_leg d k) m).hall ≡ sky_of m
    pub same_book : (then (take_away fired (leg_slot c)) (fire_leg d k) m).hall.book ≡ m.book
    pub good : Good (then (take_away fired (leg_slot c)) (fire_leg d k) m).hall
    pub fires : Fires (sky_of m) k (core_of m) (core_of (then (take_away fired (leg_slot c)) (fire_leg d k) m).hall) []

  leg_step : (c : ℕ) (k : Stamp) → in_hall m c ≡ true → m.queue (leg_slot c) ≡ Some k → FiredAs m (leg_slot c) k false
  leg_step c k ic e =
      let z = subst (λ (d : ℕ). LegStep c d k) same here in
      record { same_sky = z.same_sky; same_book = z.same_book; good = z.good; fires = z.fires }
    where
      uk : Usual k.time
      uk = g.neat (leg_slot c) k e

      same : c ≡ leg_slot c - 12288
      same = omega arith

      here : LegStep c c k
      here = record {
        same_sky = leg_sky m g k uk w w8 kept c ic e;
        same_book = (leg_amidst c k m ic).0.0;
        good = leg_good m g k uk w w8 kept c ic e;
        fires = leg_fires c (leg_rereads m g k uk w w8 kept c ic e);
      }

  pub fires_due : (s : ℕ) (k : Stamp) → m.queue s ≡ Some k → Fired m s k
  fires_due s k e = by (g.live s k e)
    where
      by : Live (in_hall m) s → Fired m s k
      by (inl x) = subst (λ (b : Bool). FiredAs m s k b) (sym (lt-ltb s 12288 (let z = slot_low x.0 x.1 x.2 x.3 (g.low x.2 x.5) in omega (arith, z, x.6))))
          (subst (λ (s : ℕ). FiredAs m s k true) (sym x.6) (bit_step x.0 x.1 x.2 k x.3 x.4 x.5 (sym (ap m.queue x.6) ∙ e)))
      by (inr x) = subst (λ (b : Bool). FiredAs m s k b) (sym (le-ltb s 12288 (let z = x.2 in omega (arith, z))))
          (subst (λ (s : ℕ). FiredAs m s k false) (sym x.2) (leg_step x.0 k x.1 (sym (ap m.queue x.2) ∙ e)))

-- ---- chains of steps
abbrev pub told_by : ℕ × Stamp → Hall → List Report
told_by f m = stepped_with (step f.0 f.1 m).time (step f.0 f.1 m).news

abbrev pub next_hall : ℕ × Stamp → Hall → Hall
next_hall f m = (step f.0 f.1 m).out.hall

-- steps to the hall e, each of what is due by the goal, and what they tell
pub data Goes (t : Fraction) (e : Hall) : Hall → List Report → Type 0 where
  stop : Goes t e e []
  more : {m : Hall} {rs : List Report} (f : ℕ × Stamp) → next_due t m ≡ Some f → Goes t e (next_hall f m) rs → Goes t e m (told_by f m ++ rs)

pub goes_join : (t : Fraction) (e n m : Hall) (rs qs : List Report) → Goes t n m rs → Goes t e n qs → Goes t e m (rs ++ qs)
goes_join t e n m rs qs stop h = h
goes_join t e n m rs qs (more {rs = ps} f d g) h = subst (λ (ls : List Report). Goes t e m ls) (sym (append_assoc (told_by f m) ps qs)) (more f d (goes_join t e n (next_hall f m) ps qs g h))

-- what is told up to where nothing is due is one list
pub goes_one : (t : Fraction) (e e' m : Hall) (rs rs' : List Report) → next_due t e ≡ None → next_due t e' ≡ None → Goes t e m rs → Goes t e' m rs' → rs ≡ rs'
goes_one t e e' m rs rs' q q' stop stop = refl
goes_one t e e' m rs rs' q q' stop (more f d g) = some_none (next_due t m) f q d
goes_one t e e' m rs rs' q q' (more f d g) stop = some_none (next_due t m) f q' d
goes_one t e e' m rs rs' q q' (more {rs = ps} f d g) (more {rs = ps'} f' d' g') =
    let r = some_some (next_due t m) f f' d d' in
    (λ i. told_by (r i) m ++ ps) ∙ ap (λ (ls : List Report). told_by f' m ++ ls) (goes_one t e e' (next_hall f m) ps ps' q q' g (subst (λ (x : ℕ × Stamp). Goes t e' (next_hall x m) ps') (sym r) g'))

-- ---- what a step tells fits a page, and its time is usual
craft_fit : (c d : ℕ) (x y : Bool) (w : News) → c < 256 → d < 256 → news x y c d ≡ Some w → CraftFit w
craft_fit c d true true w p q e = let z : ◌≡◌ {A = ℕ} 0 1 = cc in absurd (omega arith)
craft_fit c d true false w p q e = let z : parted c d ≡ w = cc in subst CraftFit z (p, q)
craft_fit c d false true w p q e = let z : met c d ≡ w = cc in subst CraftFit z (p, q)
craft_fit c d false false w p q e = let z : ◌≡◌ {A = ℕ} 0 1 = cc in absurd (omega arith)

news_fit : (s : ℕ) (b x y : Bool) (w : News) → cond b (news x y (lower_of s) (higher_of s)) None ≡ Some w → CraftFit w
news_fit s true x y w e = craft_fit (lower_of s) (higher_of s) x y w (omega arith) (omega arith) e
news_fit s false x y w e = let z : ◌≡◌ {A = ℕ} 0 1 = cc in absurd (omega arith)

time_fits : (t : Fraction) → Usual t → (t.num < 2 ^ 32) × (t.den < 2 ^ 16)
time_fits t u = let h = u.small in let k = u.inside in (omega arith, omega arith)

-- usual times, and craft that fit a byte
pub record Plain (r : Report) : Type 0 where
  pub usual : Usual r.time
  pub fits : ReportFits r

abbrev pub AllPlain : List Report → Type 0
AllPlain [] = Unit {0}
AllPlain (r ∷ rs) = Plain r × AllPlain rs

pub plain_join : (rs qs : List Report) → AllPlain rs → AllPlain qs → AllPlain (rs ++ qs)
plain_join [] qs p q = q
plain_join (r ∷ rs) qs p q = (p.0, plain_join rs qs p.1 q)

pub plain_fit : (rs : List Report) → AllPlain rs → ReportsFit rs
plain_fit [] p = tt
plain_fit (r ∷ rs) p = (p.0.fits, plain_fit rs p.1)

pub plain_in : (rs : List Report) (r : Report) → AllPlain rs → r ∈ rs → Usual r.time
plain_in [] r p e = absurd (Memᴰ.not-nil e)
plain_in (q ∷ rs) r p e = by (Memᴰ.cases_cons e) (λ i. plain_in rs r p.1 i)
  where
    by : (r ≡ q) ⊎ (r ∈ rs) → (r ∈ rs → Usual r.time) → Usual r.time
    by (inl z) f = subst (λ (x : Report). Usual x.time) (sym z) p.0.usual
    by (inr z) f = f z

told_plain : (m : Hall) (f : ℕ × Stamp) → Usual f.1.time → AllPlain (told_by f m)
told_plain m f u = by (step f.0 f.1 m).news (λ w e. news_fit f.0 (ltb f.0 12288) (together (lower_of f.0) (higher_of f.0) m) (together (lower_of f.0) (higher_of f.0) (fire f.0 f.1 m).hall) w e)
  where
    by : (o : Option News) → ((w : News) → o ≡ Some w → CraftFit w) → AllPlain (stepped_with f.1.time o)
    by None h = tt
    by (Some w) h = (record { usual = u; fits = record { craft = h w refl; num = (time_fits f.1.time u).0; den = (time_fits f.1.time u).1 } }, tt)

-- ---- what a chain of steps comes to
pub record Gone (t : Fraction) (e m : Hall) (rs : List Report) : Type 0 where
  pub good : Good e
  pub same_sky : sky_of e ≡ sky_of m
  pub same_book : e.book ≡ m.book
  pub runs : Runs (sky_of m) t (core_of e) (core_of m) rs
  pub plain : AllPlain rs

module _ (w : ℕ) (w8 : w ≤ 8) where
  abbrev pub KeptPaths : Hall → Type 0
  KeptPaths m = (c : ℕ) → Kept w (path m.book c)

  pub kept_on : (m h : Hall) → h.book ≡ m.book → KeptPaths m → KeptPaths h
  kept_on m h e kept c = subst (λ (b : Book). Kept w (path b c)) (sym e) (kept c)

  pub goes_later : (s t : Fraction) → Proper s → Proper t → is_earlier (at t) (at s) ≡ false → (e m : Hall) (rs : List Report) → Good m → KeptPaths m → Goes s e m rs → Goes t e m rs
  goes_later s t ps pt h e m rs g kept stop = stop
  goes_later s t ps pt h e m rs g kept (more f d n) =
      let z = fires_due w w8 m g kept f.0 f.1 (due_first m g s f d).0.here in
      more f (due_later m g s t f ps pt h d) (goes_later s t ps pt h e (next_hall f m) _ z.good (kept_on m (next_hall f m) z.same_book kept) n)

  pub goes_gone : (t : Fraction) (e m : Hall) (rs : List Report) → Good m → KeptPaths m → Goes t e m rs → Gone t e m rs
  goes_gone t e m rs g kept stop = record { good = g; same_sky = refl; same_book = refl; runs = machine.stop; plain = tt }
  goes_gone t e m rs g kept (more {rs = qs} f d n) =
      let l = due_first m g t f d in
      let z = fires_due w w8 m g kept f.0 f.1 l.0.here in
      let i = goes_gone t e (next_hall f m) qs z.good (kept_on m (next_hall f m) z.same_book kept) n in
      record {
        good = i.good;
        same_sky = i.same_sky ∙ z.same_sky;
        same_book = i.same_book ∙ z.same_book;
        runs = machine.step f.1 (core_of (next_hall f m)) (record { bits = λ j p a k q. l.0.least _ k q; legs = λ c p k q. l.0.least _ k q }) l.1 z.fires
            (subst (λ (y : Sky). Runs y t (core_of e) (core_of (next_hall f m)) qs) z.same_sky i.runs);
        plain = plain_join (told_by f m) qs (told_plain m f (g.neat f.0 f.1 l.0.here)) i.plain;
      }
