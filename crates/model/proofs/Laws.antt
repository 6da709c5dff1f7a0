-- Refusals and questions alter nothing.
use Rattle.std.proofs.Common.{◌≡◌, ℕ, Some, None, Option, refl, ap, arith}
use Rattle.rules.specs.Fractions.{Fraction}
use Rattle.rules.specs.Stamps.{Stamp}
use Rattle.model.specs.Halls.{State, next_due}
use Rattle.model.specs.Calls.{Call, changing, setting, stepping, running, resting, touching, listing, asking, Reply, refused, accepted, only}
use Rattle.model.specs.Refusals.{refusal}
use Rattle.model.specs.Performing.{unless, stepping_to, carried_out}
use Rattle.model.specs.Laws.{RefusalsAlterNothing, QuestionsAlterNothing}

clash : (r : Reply) (n : ℕ) → accepted r ≡ refused n → ⊥
clash r n e = let z : ◌≡◌ {A = ℕ} 0 1 = cc in omega arith

-- what is carried out is not refused
carried : (call : Call) (z : State) (n : ℕ) → (carried_out call z).answer.result ≡ refused n → ⊥
carried (changing t x slip) z n e = clash _ n e
carried (setting t k d) z n e = clash _ n e
carried (stepping t g slip) z n e = by (next_due g z.hall) e
  where
    by : (f : Option (ℕ × Stamp)) → (stepping_to f z).answer.result ≡ refused n → ⊥
    by None e = clash _ n e
    by (Some f) e = clash _ n e
carried (running t g slip page) z n e = clash _ n e
carried (resting t g) z n e = clash _ n e
carried (touching t c d) z n e = clash _ n e
carried (listing t room) z n e = clash _ n e
carried (asking s) z n e = clash _ n e

pub refusals_alter_nothing : RefusalsAlterNothing
refusals_alter_nothing call z n e = by (refusal call z) e
  where
    by : (o : Option ℕ) → (unless o call z).answer.result ≡ refused n → ((unless o call z).state ≡ z) × ((unless o call z).answer ≡ only (refused n))
    by None e = absurd (carried call z n e)
    by (Some k) e = (refl, ap only e)

pub questions_alter_nothing : QuestionsAlterNothing
questions_alter_nothing z = (λ t c d. touch t c d (refusal (touching t c d) z), λ t room. list t room (refusal (listing t room) z), λ s. ask s (refusal (asking s) z))
  where
    touch : (t : Fraction) (c d : ℕ) (o : Option ℕ) → (unless o (touching t c d) z).state ≡ z
    touch t c d None = refl
    touch t c d (Some n) = refl

    list : (t : Fraction) (room : ℕ) (o : Option ℕ) → (unless o (listing t room) z).state ≡ z
    list t room None = refl
    list t room (Some n) = refl

    ask : (s : ℕ) (o : Option ℕ) → (unless o (asking s) z).state ≡ z
    ask s None = refl
    ask s (Some n) = refl
