-- Laws of every call on every state.
use Rattle.std.specs.Prelude.{◌≡◌, ℕ}
use Rattle.rules.specs.Fractions.{Fraction}
use Rattle.model.specs.Halls.{State}
use Rattle.model.specs.Calls.{Call, touching, listing, asking, refused, only}
use Rattle.model.specs.Performing.{perform}

-- a refusal alters nothing and tells nothing but its number
abbrev pub RefusalsAlterNothing : Type 0
RefusalsAlterNothing = (call : Call) (z : State) (n : ℕ) → (perform call z).answer.result ≡ refused n →
    ((perform call z).state ≡ z) × ((perform call z).answer ≡ only (refused n))

-- questions change nothing
abbrev pub QuestionsAlterNothing : Type 0
QuestionsAlterNothing = (z : State) →
    ((t : Fraction) (c d : ℕ) → (perform (touching t c d) z).state ≡ z)
    × ((t : Fraction) (room : ℕ) → (perform (listing t room) z).state ≡ z)
    × ((s : ℕ) → (perform (asking s) z).state ≡ z)
