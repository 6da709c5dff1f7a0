-- What the trait's laws say of what is held.
use Rattle.std.proofs.Common.{◌≡◌, ℕ, ◌≤◌, Some, None}
use Rattle.rules.specs.Fractions.{Usual}
use Rattle.rules.specs.Stamps.{Stamp}
use Rattle.rules.specs.Slots.{Queue}
use Rattle.queues.specs.Laws.{Held}

-- from the laws that every queue keeps
pub held_by : (q : Queue) → ((k : ℕ) → 12352 ≤ k → q k ≡ None) → ((k : ℕ) (m : Stamp) → q k ≡ Some m → Usual m.time) → Held q
held_by q within usual = record { within = within; proper = λ k m e. (usual k m e).proper }
