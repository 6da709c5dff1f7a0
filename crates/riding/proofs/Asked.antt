-- The questions put to a layer, by the answers of the book below.
use Rattle.std.proofs.Common.{◌≡◌, ℕ, ◌≤◌, Bool, true, false, cond, ◌||◌, leb, Some, None, Ok, Option, sym, refl, ap, ◌∙◌, ap₂, arith}
use Rattle.std.proofs.lemmas.Bool.{leb-true}
use Rattle.rules.specs.Fractions.{Fraction}
use Rattle.rules.specs.Paths.{Axis, Line, Path, sum}
use Rattle.rules.specs.Books.{Book, Lawful, layered, path, carried, follows, in_seat, out_of_range}
use Rattle.plans.specs.declared.answer.LegAnswer.{LegAnswer}
use Rattle.plans.specs.Routes.{answer_of, leg_asked}
use Rattle.books.specs.Told.{leg_answer, follow_answer}
use Rattle.books.proofs.Followers.{lawful_kept}
use Rattle.riding.specs.Layer.{added}
use Rattle.riding.specs.Legs.{added_legs, SmallLegs}
use Rattle.riding.specs.Layers.{layered_path, layered_follows}
use Rattle.riding.proofs.Legs.{legs_sum, small_legs, asked_ok, told_ok}

-- an answer that is given
abbrev Given : Type 0
Given = (Axis → Line) × Option ℕ

-- where a layer adds a seat, the scale below is at most 4
pub adds_low : (s : ℕ → Option ℕ) (b : Book) (c k : ℕ) → Some k ≡ added s b c → b.scale ≤ 4
adds_low s b c k e = leb-true b.scale 4 (by (leb b.scale 4) e)
  where
    by : (t : Bool) → Some k ≡ cond t (s c) None → t ≡ true
    by true q = refl
    by false q = let z : ◌≡◌ {A = ℕ} 0 1 = cc in absurd (omega arith)

pub leg_small : (s : ℕ → Option ℕ) (b : Book) (c k d : ℕ) (t : Fraction) (l : LegAnswer) → Lawful b → Some k ≡ added s b c → Ok (answer_of l) ≡ leg_answer b d t → SmallLegs l
leg_small s b c k d t l w e q =
    small_legs l (path b d) t b.scale (lawful_kept b w d) (adds_low s b c k e) (asked_ok (out_of_range d) (answer_of l) (leg_asked (path b d) t) q).1

module _ (s : ℕ → Option ℕ) (b : Book) (c : ℕ) (t : Fraction) (l : LegAnswer) (q : Ok (answer_of l) ≡ leg_answer b c t) where
  own : (out_of_range c ≡ false) × (answer_of l ≡ leg_asked (path b c) t)
  own = asked_ok (out_of_range c) (answer_of l) (leg_asked (path b c) t) q

  by_path : (x : Given) (p : Path) → p ≡ path (layered s b) c → x ≡ leg_asked p t → Ok x ≡ leg_answer (layered s b) c t
  by_path x p e f = told_ok (out_of_range c) x (leg_asked (path (layered s b) c) t) own.0 (f ∙ ap (λ (r : Path). leg_asked r t) e)

  pub leg_alone : None ≡ added s b c → Ok (answer_of l) ≡ leg_answer (layered s b) c t
  leg_alone e = by_path (answer_of l) (path b c) (ap (carried (path b) c) e ∙ sym (layered_path s b c)) own.1

  pub leg_rides : (k : ℕ) (m r : LegAnswer) → Some k ≡ added s b c → Ok (answer_of m) ≡ leg_answer b k t → r ≡ added_legs l m → Ok (answer_of r) ≡ leg_answer (layered s b) c t
  leg_rides k m r e f g =
      by_path (answer_of r) (sum (path b c) (path b k)) (ap (carried (path b) c) e ∙ sym (layered_path s b c))
      (ap answer_of g ∙ legs_sum l m (path b c) (path b k) t own.1 (asked_ok (out_of_range k) (answer_of m) (leg_asked (path b k) t) f).1)

module _ (s : ℕ → Option ℕ) (b : Book) (d c : ℕ) (x : Bool) (q : Ok x ≡ follow_answer b d c) where
  direct : ((out_of_range d || out_of_range c) ≡ false) × (x ≡ follows b c d)
  direct = asked_ok (out_of_range d || out_of_range c) x (follows b c d) q

  by_follows : (y : Bool) (o : Option ℕ) → o ≡ added s b d → y ≡ (follows b c d || in_seat (follows b c) o) → Ok y ≡ follow_answer (layered s b) d c
  by_follows y o e f = told_ok (out_of_range d || out_of_range c) y (follows (layered s b) c d) direct.0 (f ∙ ap (λ (o : Option ℕ). follows b c d || in_seat (follows b c) o) e ∙ sym (layered_follows s b c d))

  pub follow_alone : None ≡ added s b d → Ok x ≡ follow_answer (layered s b) d c
  follow_alone e = by_follows x None e (direct.1 ∙ or_false (follows b c d))
    where
      or_false : (z : Bool) → z ≡ (z || false)
      or_false true = refl
      or_false false = refl

  pub follow_rides : (k : ℕ) (y r : Bool) → Some k ≡ added s b d → Ok y ≡ follow_answer b k c → r ≡ (x || y) → Ok r ≡ follow_answer (layered s b) d c
  follow_rides k y r e f g = by_follows r (Some k) e (g ∙ ap₂ ◌||◌ direct.1 (asked_ok (out_of_range k || out_of_range c) y (follows b c k) f).1)
