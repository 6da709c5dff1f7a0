-- The plan that a filing writes down.
use Rattle.std.specs.Prelude.{List, [], ◌∷◌}
use Rattle.rules.specs.Paths.{xyz}
use Rattle.rules.specs.Plans.{Leg as FlightLeg, Plan as FlightPlan}
use Rattle.plans.specs.Of.{begun, pushed}
use Rattle.console_read.specs.Shapes.{legs_given}
use Rattle.console_read.specs.declared.command.LegText.{LegText}
use Rattle.console_read.specs.declared.command.Filing.{Filing}

-- a leg as it is typed
abbrev pub typed_leg : LegText → FlightLeg
typed_leg l = record { from = l.start; speed = xyz l.speed.x l.speed.y l.speed.z }

-- the legs after one another
abbrev pub with_legs : List LegText → FlightPlan → FlightPlan
with_legs [] p = p
with_legs (l ∷ ls) p = with_legs ls (pushed (typed_leg l) p)

-- the plan as it is typed: all its legs, of which there are at most 20, are counted, and the first eight kept
abbrev pub typed_plan : Filing → FlightPlan
typed_plan f = with_legs (legs_given f) (begun (xyz f.at.x f.at.y f.at.z) f.end)
