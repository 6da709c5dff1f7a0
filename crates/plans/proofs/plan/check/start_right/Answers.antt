use Rattle.std.proofs.Common.{◌≡◌, rules, refl, ◌∙◌}
use Rattle.rules.specs.Plans.{within}
use Rattle.plans.proofs.plan.check.start_right.Goals as goal

pub returns : goal.returns
returns c =
    let x : c.map.result.x ≡ within 1000000 c.args.start.x = let k = c.map.ensures.x in search rules in
    let y : c.map.result.y ≡ within 1000000 c.args.start.y = let k = c.map.ensures.y in search rules in
    let z : c.map.result.z ≡ within 1000000 c.args.start.z = let k = c.map.ensures.z in search rules in
    c.all.ensures ∙ rw (x, y, z) refl
