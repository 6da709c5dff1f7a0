use Rattle.std.proofs.Common.{◌≡◌, ◌≤◌, true, List, length, ℤ, pos, nat_abs, sym, ap, ◌∙◌, subst, ap₂, arith, w32, SFits, length-take}
use Rattle.rules.specs.Plans.{legs_right}
use Rattle.fleet.specs.Axes.{axis_of}
use Rattle.plans.specs.declared.plan.Leg.{Leg}
use Rattle.plans.specs.Of.{legs_of, plan_of}
use Rattle.plans.specs.Lines.{line_of, plus, legs_line}
use Rattle.plans.proofs.Sizes.{sum_within}
use Rattle.plans.proofs.Flown.{plan_line_is}
use Rattle.plans.proofs.Casts.{small_fits, part_is}
use Rattle.plans.proofs.Routed.{route_right}
use Rattle.plans.proofs.route.Route.line.Goals as goal

pub legs_line-requires : goal.legs_line-requires
legs_line-requires c =
    let p = c.args.self.now.plan in
    let q = route_right c.args.self.now in
    let h = q.high in
    record {
      right = subst (λ (ls : List Leg). legs_right (legs_of ls) p.end ≡ true) (sym c.kept_legs.ensures) q.legs;
      few = subst (λ (ls : List Leg). length ls ≤ 8) (sym c.kept_legs.ensures) (let n = length-take p.count p.legs in omega arith);
      last = q.last;
    }

pub add-requires : goal.add-requires
add-requires c =
    let p = c.args.self.now.plan in
    let f : SFits w32 c.on.result = record { sfits = c.on.type_inv } in
    let s = part_is w32 p.start c.args.axis c.on.result f c.on.ensures in
    let h = subst (λ (z : ℤ). nat_abs z ≤ 1000000) (sym s) ((route_right c.args.self.now).starts (axis_of c.args.axis)) in
    record {
      base = small_fits _ 401000000 (sum_within _ c.legs_line.result.0 1000000 400000000 h c.legs_line.ensures.base) (omega arith);
      slope = small_fits _ 8000 (sum_within (pos 0) c.legs_line.result.1 0 8000 (omega arith) c.legs_line.ensures.slope) (omega arith);
    }

pub returns : goal.returns
returns c =
    let p = c.args.self.now.plan in
    let f : SFits w32 c.on.result = record { sfits = c.on.type_inv } in
    let s = part_is w32 p.start c.args.axis c.on.result f c.on.ensures in
    ap line_of (c.add.ensures ∙ ap₂ (λ (z : ℤ) (m : ℤ × ℤ). plus (z, pos 0) m) s (c.legs_line.ensures.value ∙ ap (λ (ls : List Leg). legs_line (legs_of ls) p.end (axis_of c.args.axis) c.args.i) c.kept_legs.ensures))
    ∙ plan_line_is (plan_of p) (axis_of c.args.axis) c.args.i (route_right c.args.self.now).legs
