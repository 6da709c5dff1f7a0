use Rattle.std.proofs.Common.{◌≡◌}
use Rattle.rules.specs.Plans.{legs_right}
use Rattle.plans.specs.Of.{legs_of}
use Rattle.plans.proofs.plan.check.legs_right.Given as goal

-- the legs that are left decide
abbrev pub invariant-loop-leg : goal.invariant-loop-leg
invariant-loop-leg l =
    (goal.iterator-loop-leg).can_next l.leg-iterator
    × (goal.iterator-loop-leg).is_finite l.leg-iterator
    × (legs_right (legs_of l.leg-iterator.iter.rest.now) l.until ≡ legs_right (legs_of l.legs) l.end)
