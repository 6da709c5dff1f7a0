use Rattle.std.proofs.Common.{◌≡◌, ◌+◌, ◌*◌, ◌≤◌, true, length, nat_abs}
use Rattle.rules.specs.Plans.{legs_right}
use Rattle.fleet.specs.Axes.{axis_of}
use Rattle.plans.specs.Of.{legs_of}
use Rattle.plans.specs.Lines.{plus, legs_line}
use Rattle.plans.proofs.route.lines.legs_line.Given as goal

-- what the legs that are left add, and the sum so far, come to all; and there is room for what they add
abbrev pub invariant-loop-leg : goal.invariant-loop-leg
invariant-loop-leg l =
    (goal.iterator-loop-leg).can_next l.leg-iterator
    × (goal.iterator-loop-leg).is_finite l.leg-iterator
    × (plus (legs_line (legs_of l.leg-iterator.iter.rest.now) l.until (axis_of l.axis) l.i) l.line ≡ legs_line (legs_of l.legs) l.end (axis_of l.axis) l.i)
    × (legs_right (legs_of l.leg-iterator.iter.rest.now) l.until ≡ true)
    × (l.until ≤ 50000)
    × (nat_abs l.line.0 + 50000000 * length l.leg-iterator.iter.rest.now ≤ 400000000)
    × (nat_abs l.line.1 + 1000 * length l.leg-iterator.iter.rest.now ≤ 8000)
