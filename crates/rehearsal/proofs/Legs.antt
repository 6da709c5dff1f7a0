-- Legs added one after another.
use Rattle.std.proofs.Common.{◌≡◌, ℕ, ◌+◌, ◌<◌, List, length, get_or, drop, sym, ap, ◌∙◌}
use Rattle.std.proofs.lemmas.List.{at_drop_more}
use Rattle.rules.specs.Plans.{Leg as FlightLeg, Plan as FlightPlan}
use Rattle.plans.specs.Of.{pushed}
use Rattle.console_read.specs.declared.command.LegText.{LegText}
use Rattle.rehearsal.specs.Filings.{typed_leg, with_legs}

pub legs_more : (ls : List LegText) (i : ℕ) (d : LegText) (p p' w : FlightPlan) (l : FlightLeg)
    → i < length ls → with_legs (drop i ls) p ≡ w → l ≡ typed_leg (get_or ls i d) → p' ≡ pushed l p
    → with_legs (drop (i + 1) ls) p' ≡ w
legs_more ls i d p p' w l h inv el ep =
    ap (λ (x : FlightPlan). with_legs (drop (i + 1) ls) x) (ep ∙ ap (λ (x : FlightLeg). pushed x p) el)
    ∙ sym (at_drop_more (λ (xs : List LegText). with_legs xs p) ls i d h)
    ∙ inv

pub legs_first : (ls ms : List LegText) (p q : FlightPlan) → ls ≡ ms → p ≡ q → with_legs (drop 0 ls) p ≡ with_legs ms q
legs_first ls ms p q el ep = ap (λ (x : List LegText). with_legs x p) el ∙ ap (λ (x : FlightPlan). with_legs ms x) ep
