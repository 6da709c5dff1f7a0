-- Moves on a slip that was just made over lines.
use Rattle.std.proofs.Common.{◌≡◌, ℕ, List, sym, subst}
use Rattle.model.specs.Halls.{Hall}
use Rattle.floor_laws.specs.Writing.{Move, Fits, Wrote}
use Rattle.slots.specs.declared.slips.Slip.{Slip}
use Rattle.floor.specs.Slips.{FitsIn, Moved}

pub on_slip : (f : Move) (m : Hall) (a : Slip) (s : List ℕ) → a.lines.now ≡ s → a.used ≡ 0 → Fits f 0 m s → FitsIn f m a
on_slip f m a s p q w = subst (λ (i : ℕ). Fits f i m a.lines.now) (sym q) (subst (λ (x : List ℕ). Fits f 0 m x) (sym p) w)

pub from_slip : (f : Move) (m m' : Hall) (a b : Slip) (s s' : List ℕ) (n : ℕ) → a.lines.now ≡ s → a.used ≡ 0 → s' ≡ b.lines.now → n ≡ b.used → Moved f m m' a b → Wrote f 0 m m' s s' n
from_slip f m m' a b s s' n p q r e w =
    subst (λ (i : ℕ). Wrote f 0 m m' s s' i) (sym e)
    (subst (λ (x : List ℕ). Wrote f 0 m m' s x b.used) (sym r)
    (subst (λ (x : List ℕ). Wrote f 0 m m' x b.lines.now b.used) p (subst (λ (i : ℕ). Wrote f i m m' a.lines.now b.lines.now b.used) q w.wrote)))
