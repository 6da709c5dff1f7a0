use Rattle.std.proofs.Common.{◌+◌, ◌*◌, ◌≤◌, length, ℤ, nat_abs, sym, ap, ◌∙◌, subst, arith, w16, SFits}
use Rattle.fleet.specs.Axes.{axis_of}
use Rattle.plans.specs.Lines.{plus, leg_line, legs_line}
use Rattle.plans.specs.Of.{legs_of}
use Rattle.plans.proofs.Casts.{small_fits, part_is, last_says, base_room, slope_room, sum_step}
use Rattle.plans.proofs.route.lines.legs_line.Goals as goal

pub leg_line-requires-clause-speed : goal.leg_line-requires-clause-speed
leg_line-requires-clause-speed c =
    let f : SFits w16 c.on.result = record { sfits = c.on.type_inv } in
    subst (λ (v : ℤ). nat_abs v ≤ 1000) (sym (part_is w16 c.in-Some.leg.now.speed c.args.axis c.on.result f c.on.ensures))
    ((last_says _ _ _ _ c.in-Some.ensures.steps c.loop-leg.invariant.3).1.speeds (axis_of c.args.axis))

pub leg_line-requires-clause-order : goal.leg_line-requires-clause-order
leg_line-requires-clause-order c = (last_says _ _ _ _ c.in-Some.ensures.steps c.loop-leg.invariant.3).1.order

pub add-line-requires : goal.add-line-requires
add-line-requires c =
    let a = axis_of c.args.axis in
    let v = c.loop-leg.invariant in
    let e = c.in-Some.ensures.steps in
    let f : SFits w16 c.on.result = record { sfits = c.on.type_inv } in
    let m = c.leg_line.ensures ∙ ap (λ (v : ℤ). leg_line v c.in-Some.leg.now.start c.loop-leg.until c.args.i) (part_is w16 c.in-Some.leg.now.speed c.args.axis c.on.result f c.on.ensures) in
    let b = base_room _ _ _ _ e a c.args.i c.leg_line.result c.loop-leg.line m v.3 v.4 v.5 in
    let s = slope_room _ _ _ _ e a c.args.i c.leg_line.result c.loop-leg.line m v.3 v.4 v.6 in
    record { base = small_fits _ 400000000 (omega (arith, b)) (omega arith); slope = small_fits _ 8000 (omega (arith, s)) (omega arith) }

pub loop-leg-preserved : goal.loop-leg-preserved
loop-leg-preserved c =
    let a = axis_of c.args.axis in
    let v = c.loop-leg.invariant in
    let e = c.in-Some.ensures.steps in
    let f : SFits w16 c.on.result = record { sfits = c.on.type_inv } in
    let m = c.leg_line.ensures ∙ ap (λ (v : ℤ). leg_line v c.in-Some.leg.now.start c.loop-leg.until c.args.i) (part_is w16 c.in-Some.leg.now.speed c.args.axis c.on.result f c.on.ensures) in
    let l = c.in-Some.leg.now in
    let rest = c.next.new.self.iter.rest.now in (
      tt,
      tt,
      ap (plus (legs_line (legs_of rest) l.start a c.args.i)) (c.add-line.ensures ∙ ap (λ (m : ℤ × ℤ). plus m c.loop-leg.line) m)
          ∙ sum_step _ rest l c.loop-leg.until e a c.args.i c.loop-leg.line ∙ v.2,
      (last_says _ _ _ _ e v.3).0,
      (let o = (last_says _ _ _ _ e v.3).1.order in let h = v.4 in omega arith),
      subst (λ (s : ℤ × ℤ). nat_abs s.0 + 50000000 * length rest ≤ 400000000) (sym c.add-line.ensures) (base_room _ _ _ _ e a c.args.i c.leg_line.result c.loop-leg.line m v.3 v.4 v.5),
      subst (λ (s : ℤ × ℤ). nat_abs s.1 + 1000 * length rest ≤ 8000) (sym c.add-line.ensures) (slope_room _ _ _ _ e a c.args.i c.leg_line.result c.loop-leg.line m v.3 v.4 v.6),
    )
