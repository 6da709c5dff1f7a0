-- What holds of every route.
use Rattle.std.proofs.Common.{◌≡◌, ℕ, ◌≤◌, true, length, take, pos, nat_abs, None, sym, ap, ◌∙◌, arith}
use mathlib.Core.Path.{fun_ext}
use Rattle.rules.specs.Fractions.{Fraction, Proper, whole}
use Rattle.rules.specs.Paths.{Axis, X, Y, Z, Kept, xyz, line_at, leg, standing}
use Rattle.rules.specs.Plans.{legs_right}
use Rattle.plans.specs.declared.route.Route.{Route}
use Rattle.plans.specs.declared.answer.LegAnswer.{LegAnswer}
use Rattle.plans.specs.Of.{place_of, legs_of, plan_of}
use Rattle.plans.specs.Lines.{line_of, first_past}
use Rattle.plans.specs.Routes.{route_path, answer_of, leg_asked}
use Rattle.plans.proofs.Flown.{right_plan, plan_kept, first_break, still}

pub record RouteRight (r : Route) : Type 0 where
  pub starts : (a : Axis) → nat_abs (place_of r.plan.start a) ≤ 1000000
  pub high : r.plan.count ≤ 8
  pub held : r.plan.count ≤ length r.plan.legs
  pub legs : legs_right (legs_of (take r.plan.count r.plan.legs)) r.plan.end ≡ true
  pub last : r.plan.end ≤ 50000

pub route_right : (r : Route) → RouteRight r
route_right r =
    let q = right_plan (plan_of r.plan) r.right in
    let h = q.high in
    let e = r.plan.table in
    record { starts = q.starts; high = h; held = omega arith; legs = q.legs; last = q.last }

pub route_kept : (r : Route) → Kept 1 (route_path r)
route_kept r = plan_kept (plan_of r.plan) r.right

pub xyz_≡ : {A : Type 0} (f : Axis → A) (u v w : A) → u ≡ f X → v ≡ f Y → w ≡ f Z → xyz u v w ≡ f
xyz_≡ {A} f u v w x y z = fun_ext by
  where
    by : (a : Axis) → xyz u v w a ≡ f a
    by X = x
    by Y = y
    by Z = z

-- an answer that gives the line on each axis at the whole part of t, and the first break above it
pub answered : (r : Route) (l : LegAnswer) (t : Fraction) (i : ℕ) → Proper t → i ≡ whole t →
    line_of l.lines.x ≡ line_at (route_path r) X i → line_of l.lines.y ≡ line_at (route_path r) Y i → line_of l.lines.z ≡ line_at (route_path r) Z i →
    l.next ≡ first_past i (route_path r).breaks → answer_of l ≡ leg_asked (route_path r) t
answered r l t i pt e x y z n =
    λ j. (
      xyz_≡ (leg (route_path r) t) (line_of l.lines.x) (line_of l.lines.y) (line_of l.lines.z)
          (x ∙ ap (line_at (route_path r) X) e) (y ∙ ap (line_at (route_path r) Y) e) (z ∙ ap (line_at (route_path r) Z) e) j,
      (n ∙ ap (λ (k : ℕ). first_past k (route_path r).breaks) e ∙ sym (first_break (plan_of r.plan).legs r.plan.end t pt (route_right r).legs)) j,
    )

pub standing_asked : (t : Fraction) → answer_of (record { lines = record { x = (pos 0, pos 0); y = (pos 0, pos 0); z = (pos 0, pos 0) }; next = None }) ≡ leg_asked standing t
standing_asked t =
    let e : line_of (pos 0, pos 0) ≡ line_at standing X (whole t) = sym (ap line_of (still (pos 0) (whole t))) in
    λ j. (xyz_≡ (leg standing t) (line_of (pos 0, pos 0)) (line_of (pos 0, pos 0)) (line_of (pos 0, pos 0)) e e e j, None)
