-- The code's plans as values.
use Rattle.std.specs.Prelude.{ℕ, suc, min, cond, List, [], ◌∷◌, ◌++◌, map, take, ℤ, nat_lt}
use Rattle.rules.specs.Paths.{Axis, xyz}
use Rattle.rules.specs.Plans.{Leg as FlightLeg, Plan as FlightPlan}
use Rattle.fleet.specs.declared.axes.Xyz.{Xyz}
use Rattle.plans.specs.declared.plan.Leg.{Leg}
use Rattle.plans.specs.declared.plan.Plan.{Plan}

abbrev pub place_of : Xyz ℤ → Axis → ℤ
place_of p = xyz p.x p.y p.z

abbrev pub speed_of : Xyz ℤ → Axis → ℤ
speed_of s = xyz s.x s.y s.z

abbrev pub leg_of : Leg → FlightLeg
leg_of l = record { from = l.start; speed = speed_of l.speed }

abbrev pub legs_of : List Leg → List FlightLeg
legs_of ls = map leg_of ls

-- the legs that a plan keeps: the first of its table, as many as it counts
abbrev pub plan_of : Plan → FlightPlan
plan_of p = record { start = place_of p.start; count = p.count; legs = legs_of (take p.count p.legs); end = p.end }

-- a plan that has no leg yet
abbrev pub begun : (Axis → ℤ) → ℕ → FlightPlan
begun start end = record { start = start; count = 0; legs = []; end = end }

-- one leg more: it is counted, up to 255, and kept where there are fewer than eight
abbrev pub pushed : FlightLeg → FlightPlan → FlightPlan
pushed l p = record {
  start = p.start;
  count = min (suc p.count) 255;
  legs = cond (nat_lt p.count 8) (p.legs ++ l ∷ []) p.legs;
  end = p.end;
}
