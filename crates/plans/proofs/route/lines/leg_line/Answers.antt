use Rattle.std.proofs.Common.{◌-◌, sym, refl, ◌∙◌, arith, w16}
use Rattle.std.proofs.lemmas.Int.{to_z-of_z}
use Rattle.plans.proofs.Sizes.{pair_≡}
use Rattle.plans.proofs.Casts.{way_fits, way_is, minus_fits, minus_is, back_is, line_during, line_after}
use Rattle.plans.proofs.route.lines.leg_line.Goals as goal

pub overflow_mul-result : goal.overflow_mul-result
overflow_mul-result c = way_fits c.from-speed.result c.from.result c.args.v c.args.from (c.from-speed.ensures ∙ to_z-of_z w16 c.args.v c.ranges.v) c.from.ensures c.requires.speed (omega arith)

pub overflow_sub-result : goal.overflow_sub-result
overflow_sub-result c = minus_fits c.from-speed.result c.from.result c.args.v c.args.from (c.from-speed.ensures ∙ to_z-of_z w16 c.args.v c.ranges.v) c.from.ensures c.requires.speed (omega arith)

pub returns-then-i-to : goal.returns-then-i-to
returns-then-i-to c =
    let e = c.from-speed.ensures ∙ to_z-of_z w16 c.args.v c.ranges.v in
    pair_≡ (minus_is c.from-speed.result c.from.result c.args.v c.args.from e c.from.ensures c.requires.speed (omega arith)) (rw e (back_is c.args.v 1000 c.requires.speed (omega arith)))
    ∙ sym (line_during c.args.v c.args.from c.args.to c.args.i c.if-i-from.false c.if-i-to.true)

pub overflow_mul-result-2 : goal.overflow_mul-result-2
overflow_mul-result-2 c = way_fits c.from-speed.result c.from-2.result c.args.v (c.args.to - c.args.from) (c.from-speed.ensures ∙ to_z-of_z w16 c.args.v c.ranges.v) c.from-2.ensures c.requires.speed (omega arith)

pub returns : goal.returns
returns c =
    pair_≡ (way_is c.from-speed.result c.from-2.result c.args.v (c.args.to - c.args.from) (c.from-speed.ensures ∙ to_z-of_z w16 c.args.v c.ranges.v) c.from-2.ensures c.requires.speed (omega arith)) refl
    ∙ sym (line_after c.args.v c.args.from c.args.to c.args.i c.if-i-from.false c.if-i-to.false)
