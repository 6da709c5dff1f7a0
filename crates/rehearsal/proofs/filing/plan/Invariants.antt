use Rattle.std.proofs.Common.{◌≡◌, drop}
use Rattle.plans.specs.Of.{plan_of}
use Rattle.rehearsal.specs.Filings.{typed_plan, with_legs}
use Rattle.rehearsal.proofs.filing.plan.Given as goal

-- the legs that are left give the rest
abbrev pub invariant-loop-text : goal.invariant-loop-text
invariant-loop-text l = with_legs (drop l.text-index l.legs) (plan_of l.plan) ≡ typed_plan l.filing
