-- Legs of paths added, and which questions are answered.
use Rattle.std.proofs.Common.{◌≡◌, ℕ, zero, suc, ◌^◌, ◌<◌, ◌≤◌, Bool, true, false, cond, ℤ, ◌+ℤ◌, nat_abs, Ok, Err, Option, Result, sym, refl, ap, ◌∙◌, subst, ap₂, arith}
use native.Mathlib.Nat.{pow-succ'}
use Rattle.rules.specs.Fractions.{Fraction, whole}
use Rattle.rules.specs.Paths.{Axis, X, Y, Z, Line, Path, Kept, sum, leg, line_at}
use Rattle.fleet.specs.declared.axes.Axis.TheVariants.{X as onX, Y as onY, Z as onZ}
use Rattle.plans.specs.declared.answer.LegAnswer.{LegAnswer}
use Rattle.plans.specs.Lines.{line_of, plus}
use Rattle.plans.specs.Routes.{answer_of, leg_asked}
use Rattle.plans.proofs.Straight.{line_≡}
use Rattle.plans.proofs.Routed.{xyz_≡}
use Rattle.books.specs.Breaks.{earlier}
use Rattle.books.specs.Sums.{sum_slope, sum_base, first_both}
use Rattle.riding.specs.Legs.{added_legs, Small, SmallLegs}

-- the line of an answer on one axis
on_axis : (l : LegAnswer) (p : Path) (t : Fraction) → answer_of l ≡ leg_asked p t → (a : Axis) → (answer_of l).0 a ≡ line_at p a (whole t)
on_axis l p t e a = ap (λ (r : (Axis → Line) × Option ℕ). r.0 a) e

line_sum : (u v : ℤ × ℤ) (p q : Path) (a : Axis) (i : ℕ) → line_of u ≡ line_at p a i → line_of v ≡ line_at q a i → line_of (plus u v) ≡ line_at (sum p q) a i
line_sum u v p q a i e f =
    line_≡ (line_of (plus u v)) (line_at (sum p q) a i)
    (ap₂ ◌+ℤ◌ (ap (λ (l : Line). l.base) e) (ap (λ (l : Line). l.base) f) ∙ sym (sum_base p q a i))
    (ap₂ ◌+ℤ◌ (ap (λ (l : Line). l.slope) e) (ap (λ (l : Line). l.slope) f) ∙ sym (sum_slope p q a i))

pub legs_sum : (l m : LegAnswer) (p q : Path) (t : Fraction) → answer_of l ≡ leg_asked p t → answer_of m ≡ leg_asked q t → answer_of (added_legs l m) ≡ leg_asked (sum p q) t
legs_sum l m p q t e f =
    λ j. (
      xyz_≡ (leg (sum p q) t) (line_of (plus l.lines.x m.lines.x)) (line_of (plus l.lines.y m.lines.y)) (line_of (plus l.lines.z m.lines.z))
          (line_sum l.lines.x m.lines.x p q X (whole t) (on_axis l p t e X) (on_axis m q t f X))
          (line_sum l.lines.y m.lines.y p q Y (whole t) (on_axis l p t e Y) (on_axis m q t f Y))
          (line_sum l.lines.z m.lines.z p q Z (whole t) (on_axis l p t e Z) (on_axis m q t f Z)) j,
      (ap₂ earlier (ap (λ (r : (Axis → Line) × Option ℕ). r.1) e) (ap (λ (r : (Axis → Line) × Option ℕ). r.1) f) ∙ sym (first_both t p.breaks q.breaks)) j,
    )

small_line : (u : ℤ × ℤ) (p : Path) (a : Axis) (i n : ℕ) → Kept n p → n ≤ 4 → line_of u ≡ line_at p a i → Small u
small_line u p a i n k h e = record {
  base = subst (λ (z : ℤ). nat_abs z ≤ 404000000) (sym (ap (λ (l : Line). l.base) e)) (let b = k.bases a i in omega (arith, b));
  slope = subst (λ (z : ℤ). nat_abs z ≤ 4000) (sym (ap (λ (l : Line). l.slope) e)) (let b = k.slopes a i in omega (arith, b));
}

pub small_legs : (l : LegAnswer) (p : Path) (t : Fraction) (n : ℕ) → Kept n p → n ≤ 4 → answer_of l ≡ leg_asked p t → SmallLegs l
small_legs l p t n k h e onX = small_line l.lines.x p X (whole t) n k h (on_axis l p t e X)
small_legs l p t n k h e onY = small_line l.lines.y p Y (whole t) n k h (on_axis l p t e Y)
small_legs l p t n k h e onZ = small_line l.lines.z p Z (whole t) n k h (on_axis l p t e Z)

-- an answer that is given is the one asked for, of a craft in range
pub asked_ok : {A : Type 0} (t : Bool) (x y : A) → ◌≡◌ {A = Result A ℕ} (Ok x) (cond t (Err 2) (Ok y)) → (t ≡ false) × (x ≡ y)
asked_ok true x y e = let z : ◌≡◌ {A = ℕ} 0 1 = cc in absurd (omega arith)
asked_ok false x y e = (refl, cc)

pub told_ok : {A : Type 0} (t : Bool) (x y : A) → t ≡ false → x ≡ y → ◌≡◌ {A = Result A ℕ} (Ok x) (cond t (Err 2) (Ok y))
told_ok t x y e f = rw (e, f) refl

-- levels are few, since 2 to their power is at most the scale
pub few_levels : (l : ℕ) → 2 ^ l ≤ 9 → l ≤ 9
few_levels l h = omega (arith, grows l)
  where
    grows : (l : ℕ) → l < 2 ^ l
    grows zero = omega arith
    grows (suc l) = let e = pow-succ' 2 l in let g = grows l in omega arith
