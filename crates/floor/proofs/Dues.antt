-- What is due is held in a slot that there is.
use Rattle.std.proofs.Common.{◌≡◌, ℕ, ◌<◌, ◌≤◌, Bool, true, false, cond, Some, None, Option, sym, ap, ◌∙◌, subst, arith, MatchOption}
use native.Mathlib.Decide.{dec_lt}
use Rattle.rules.specs.Fractions.{Fraction}
use Rattle.rules.specs.Stamps.{Stamp, at, is_earlier}
use Rattle.rules.specs.Slots.{Queue, first, First}
use Rattle.times.specs.declared.moment.Moment.{Moment}
use Rattle.times.specs.Of.{moment_of}
use Rattle.queues.specs.Laws.{Held}
use Rattle.queues.specs.Meanings.{soonest, first_told}
use Rattle.queues.proofs.Firsts.{first_right}
use Rattle.model.specs.Halls.{due_by}

pub due_is : (q : Queue) (goal : Fraction) (f r : Option (ℕ × Moment)) → first_told f ≡ soonest q → first_told r ≡ due_by goal (first_told f) → first_told r ≡ due_by goal (first q)
unfolding soonest
due_is q goal f r e g = g ∙ ap (due_by goal) e

module _ (q : Queue) (h : Held q) (goal : Fraction) where
  inside : (s : ℕ) (m : Stamp) → q s ≡ Some m → s < 12352
  inside s m e = go (dec_lt s 12352)
    where
      go : Dec (s < 12352) → s < 12352
      go (yes l) = l
      go (no l) = let n = h.within s (omega arith) in let z : ◌≡◌ {A = ℕ} 0 1 = cc in absurd (omega arith)

  pub due_below : (f r : Option (ℕ × Moment)) → first_told f ≡ soonest q → first_told r ≡ due_by goal (first_told f) → MatchOption r (0 ≤ 0) (λ x. x.0 < 12352)
  due_below f None e g = omega arith
  due_below f (Some x) e g = go (soonest q) (first_right q h) (g ∙ ap (due_by goal) e)
    where
      pick : (p : ℕ × Stamp) (b : Bool) → First q (Some p) → Some (x.0, moment_of x.1) ≡ cond b None (Some p) → x.0 < 12352
      pick p true l k = let z : ◌≡◌ {A = ℕ} 0 1 = cc in absurd (omega arith)
      pick p false l k = let z : x.0 ≡ p.0 = cc in subst (λ (s : ℕ). s < 12352) (sym z) (inside p.0 p.1 l.here)

      go : (o : Option (ℕ × Stamp)) → First q o → Some (x.0, moment_of x.1) ≡ due_by goal o → x.0 < 12352
      go None l k = let z : ◌≡◌ {A = ℕ} 0 1 = cc in absurd (omega arith)
      go (Some p) l k = pick p (is_earlier (at goal) p.1) l k
