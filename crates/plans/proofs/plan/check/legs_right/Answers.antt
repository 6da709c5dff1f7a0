use Rattle.std.proofs.Common.{sym, ◌∙◌}
use Rattle.plans.proofs.Tables.{last_late, last_fast, last_right}
use Rattle.plans.proofs.plan.check.legs_right.Goals as goal
use Rattle.plans.proofs.plan.check.legs_right.Goals.{then-leg-until-via-then-leg-until, then-leg-until-via-else-leg-until+then-not-speed_right}

pub returns-then-leg-until : goal.returns-then-leg-until
returns-then-leg-until c =
    let e = c.in-Some.ensures.steps in
    elim c.then-leg-until.branch [
      | then-leg-until-via-then-leg-until w ↦ sym (last_late _ _ _ _ e w.if-leg-until.true) ∙ c.loop-leg.invariant.2
      | then-leg-until-via-else-leg-until+then-not-speed_right w ↦ sym (last_fast _ _ _ _ e (sym w.speed_right.ensures ∙ w.if-not-speed_right.true)) ∙ c.loop-leg.invariant.2
    ]

pub loop-leg-preserved : goal.loop-leg-preserved
loop-leg-preserved c = (tt, tt, sym (last_right _ _ _ _ c.in-Some.ensures.steps c.if-leg-until.false (sym c.speed_right.ensures ∙ c.if-not-speed_right.false)) ∙ c.loop-leg.invariant.2)
