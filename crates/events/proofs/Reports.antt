-- The reports between two quiet clocks, and the bits at one.
use Rattle.std.proofs.Common.{◌≡◌, ℕ, ◌*◌, ◌<◌, Bool, true, false, List, is_some, Some, None, Option, sym, refl, ap, ◌∙◌, subst, inl, inr, arith}
use native.Mathlib.Decide.{dec_le}
use Rattle.rules.specs.Basics.{◌∈◌, the}
use Rattle.rules.specs.Fractions.{Fraction, Proper, Before, NotAfter, SameTime, tick}
use Rattle.rules.specs.Stamps.{Earlier, NotEarlier, at, just_after}
use Rattle.rules.specs.Paths.{Axis, on_every_axis}
use Rattle.rules.specs.Boxes.{Box, Touch, Meets, Parts}
use Rattle.rules.specs.Pages.{News, met, parted, Report}
use Rattle.rules.proofs.Order.{not_after_trans}
use Rattle.rules.proofs.Stamped.{false_true}
use Rattle.geometry_laws.specs.Points.{turning, Point, Sooner, Upto, on, past}
use Rattle.geometry_laws.proofs.Points.{upto_self}
use Rattle.events.specs.Machine.{Sky, box_of, Pair, In}
use Rattle.events.specs.Reports.{OfPair, Happens, ReportsHold, BitsTell}
use Rattle.events.proofs.Tales.{not_itself, news_at, Right, right_all, Halfway, Owed, Tale}
use Rattle.events.proofs.Pairs.{touch_all, all_touch, so, Touches, Turns}
use Rattle.events.proofs.Machine.{right_quiet, tale_runs, sound_runs}

-- ---- sides and times
sooner_met : (s u : Fraction) → Earlier (at s) (at u) → Before s u
sooner_met s u (inl x) = x
sooner_met s u (inr x) = absurd (omega (arith, x.1))

upto_met : (u t : Fraction) → NotEarlier (at t) (at u) → NotAfter u t
upto_met u t n = go (dec_le (u.num * t.den) (t.num * u.den))
  where
    go : Dec (NotAfter u t) → NotAfter u t
    go (yes x) = x
    go (no x) = absurd (n (inl (omega arith)))

pub met_upto : (u t : Fraction) → NotAfter u t → NotEarlier (at t) (at u)
met_upto u t h (inl x) = omega arith
met_upto u t h (inr x) = omega (arith, x.1)

sooner_parted : (s u : Fraction) → Earlier (at s) (just_after u) → NotAfter s u
sooner_parted s u (inl x) = omega arith
sooner_parted s u (inr x) = omega (arith, x.0)

parted_sooner : (s u : Fraction) → NotAfter s u → Earlier (at s) (just_after u)
parted_sooner s u h = go (dec_le (u.num * s.den) (s.num * u.den))
  where
    go : Dec (NotAfter u s) → Earlier (at s) (just_after u)
    go (yes x) = inr (omega arith, omega arith)
    go (no x) = inl (omega arith)

upto_parted : (u t : Fraction) → NotEarlier (at t) (just_after u) → Before u t
upto_parted u t n = go (dec_le (t.num * u.den) (u.num * t.den))
  where
    go : Dec (NotAfter t u) → Before u t
    go (yes x) = absurd (n (parted_sooner t u x))
    go (no x) = omega arith

parted_upto : (u t : Fraction) → Before u t → NotEarlier (at t) (just_after u)
parted_upto u t h (inl x) = omega arith
parted_upto u t h (inr x) = omega (arith, x.0)

-- ---- boxes of craft that fly
box_some : (none : Box) (o : Option Box) → is_some o ≡ true → o ≡ Some (the none o)
box_some none None e = absurd (false_true e)
box_some none (Some b) e = refl

pub in_pair : (y : Sky) (c d : ℕ) (k l : Box) → c < d → y.box c ≡ Some k → y.box d ≡ Some l → In y (record { lower = c; higher = d })
in_pair y c d k l h e f = record { first = ap is_some e; second = ap is_some f; order = h }

of_pair : (y : Sky) (i : Pair) → In y i → (P : (Fraction → Type 0) → Type 0) → P (Touches y i) → OfPair y i.lower i.higher P
of_pair y i p P x = (box_of y i.lower, box_of y i.higher, box_some _ (y.box i.lower) p.first, box_some _ (y.box i.higher) p.second, x)

module _ (y : Sky) (c d : ℕ) (k l : Box) (e : y.box c ≡ Some k) (f : y.box d ≡ Some l) where
  same_touch : Touch (y.path c) k (y.path d) l ≡ Touches y (record { lower = c; higher = d })
  same_touch = λ j. Touch (y.path c) (the (record { half = λ _. 0 }) (sym e j)) (y.path d) (the (record { half = λ _. 0 }) (sym f j))

-- THE REPORTS
module _ (y : Sky) (s t : Fraction) (ps : Proper s) (pt : Proper t) (b : Pair → Axis → Bool) (rs : List Report) (tale : Tale (In y) (so y) (Turns y) (on t pt) (on s ps) b rs)
    (owed : (i : Pair) → In y i → (k : Point) → Owed (In y) (so y) (Turns y) b i (on s ps) k → Sooner (on s ps) k × Turns y i k) where
  happens : (i : Pair) → In y i → (u : Fraction) (pu : Proper u) (x : Bool) → Sooner (on s ps) (record { stamp = record { time = u; after = x }; proper = pu }) → NotEarlier (at t) (record { time = u; after = x }) → turning x (Touches y i) u → Happens y s t (news_at x i) u
  happens i p u pu false h v m = (sooner_met s u h, upto_met u t v, p.order, of_pair y i p (λ touch. Meets touch u) m)
  happens i p u pu true h v m = (sooner_parted s u h, upto_parted u t v, p.order, of_pair y i p (λ touch. Parts touch u) m)

  true_told : (r : Report) → r ∈ rs → Happens y s t r.news r.time
  true_told r h =
      let e = tale.true_told r h in
      let o = owed e.pair e.inside e.when e.owed in
      subst (λ (r : Report). Happens y s t r.news r.time) (sym e.is) (happens e.pair e.inside e.when.stamp.time e.when.proper e.when.stamp.after o.0 e.upto o.1)

  all_told : (n : News) (u : Fraction) → Proper u → Happens y s t n u → (r : Report) × (r ∈ rs) × (r.news ≡ n) × SameTime r.time u
  all_told (met c d) u pu (h, v, o, (k, l, e, f, m)) =
      tale.all_told (record { lower = c; higher = d }) (in_pair y c d k l o e f) (on u pu)
      (inl (inl h, subst (λ (touch : Fraction → Type 0). Meets touch u) (same_touch y c d k l e f) m)) (met_upto u t v)
  all_told (parted c d) u pu (h, v, o, (k, l, e, f, m)) =
      tale.all_told (record { lower = c; higher = d }) (in_pair y c d k l o e f) (past u pu)
      (inl (parted_sooner s u h, subst (λ (touch : Fraction → Type 0). Parts touch u) (same_touch y c d k l e f) m)) (parted_upto u t v)

pub reports_hold : ReportsHold
reports_hold w y law s t ps pt st it c d rs rest runs quiet = (
  record { true_told = true_told y s t ps pt c.bit rs tale owed; all_told = all_told y s t ps pt c.bit rs tale owed; ordered = tale.ordered },
  record { sound = sound_runs w y law t pt it d quiet (on s ps) c rs rest.sound upto runs; quiet = quiet },
)
  where
    upto : Upto (on s ps) (on t pt)
    upto = met_upto s t st

    right : (k : Point) → Upto (on s ps) k → Upto k (on s ps) → Right (In y) (so y) (Turns y) c.bit k
    right k u v = right_quiet w y law (on s ps) c rest.sound s ps (not_after_trans s t (tick 50000) pt st it) rest.quiet k u v

    half : Halfway (In y) (so y) (Turns y) c.bit (on s ps)
    half i p a e = sym (right (on s ps) (upto_self (on s ps)) (upto_self (on s ps)) i p a) ∙ e

    tale : Tale (In y) (so y) (Turns y) (on t pt) (on s ps) c.bit rs
    tale = tale_runs w y law t pt it d quiet (on s ps) c rs rest.sound upto half runs

    -- nothing is owed at s itself
    owed : (i : Pair) → In y i → (k : Point) → Owed (In y) (so y) (Turns y) c.bit i (on s ps) k → Sooner (on s ps) k × Turns y i k
    owed i p k (inl x) = x
    owed i p k (inr x) = absurd (not_itself (on_every_axis (c.bit i)) (right_all (In y) (so y) (Turns y) c.bit k i p (right k x.0.0 x.0.1) ∙ x.1))

pub bits_tell : BitsTell
bits_tell w y law t pt it s rest c d k l o e f = (
  (λ x. subst (λ (touch : Fraction → Type 0). touch t) (sym (same_touch y c d k l e f)) (all_touch (y.path c) (box_of y c) (y.path d) (box_of y d) t pt (sym same ∙ x))),
  (λ x. same ∙ touch_all (y.path c) (box_of y c) (y.path d) (box_of y d) t pt (subst (λ (touch : Fraction → Type 0). touch t) (same_touch y c d k l e f) x)),
)
  where
    i : Pair
    i = record { lower = c; higher = d }

    same : on_every_axis (s.bit i) ≡ on_every_axis (λ a. so y i a (on t pt))
    same = right_all (In y) (so y) (Turns y) s.bit (on t pt) i (in_pair y c d k l o e f)
        (right_quiet w y law (on t pt) s rest.sound t pt it rest.quiet (on t pt) (upto_self (on t pt)) (upto_self (on t pt)))
