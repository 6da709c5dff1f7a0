-- The paths of routes, and answers to the leg question.
use Rattle.std.specs.Prelude.{ℕ, cond, Ok, Err, Option, Result}
use Rattle.rules.specs.Fractions.{Fraction}
use Rattle.rules.specs.Paths.{Axis, Line, Path, xyz, leg, first_after}
use Rattle.rules.specs.Plans.{Plan, path_of, plan_right}
use Rattle.times.specs.declared.refusal.Refusal.{Refusal}
use Rattle.times.specs.Refusals.{number_of}
use Rattle.plans.specs.declared.route.Route.{Route}
use Rattle.plans.specs.declared.answer.LegAnswer.{LegAnswer}
use Rattle.plans.specs.Of.{plan_of}
use Rattle.plans.specs.Lines.{line_of}

abbrev pub route_path : Route → Path
route_path r = path_of (plan_of r.plan)

-- what comes of a plan: its path, or refusal 8
abbrev pub route_told : Result Route Refusal → Result Path ℕ
route_told (Ok r) = Ok (route_path r)
route_told (Err e) = Err (number_of e)

abbrev pub route_made : Plan → Result Path ℕ
route_made p = cond (plan_right p) (Ok (path_of p)) (Err 8)

-- an answer to the leg question as values: the line on each axis, and the first break
abbrev pub answer_of : LegAnswer → (Axis → Line) × Option ℕ
answer_of l = (xyz (line_of l.lines.x) (line_of l.lines.y) (line_of l.lines.z), l.next)

-- what the leg question on a path is to tell
abbrev pub leg_asked : Path → Fraction → (Axis → Line) × Option ℕ
leg_asked p t = (leg p t, first_after t p.breaks)
