-- What the definitions of times and moments come to.
use Rattle.std.specs.Prelude.{◌≡◌, ℕ, ◌<◌, ◌≤◌, ◌⊎◌, Decides}
use Rattle.rules.specs.Fractions.{Fraction, Proper, Before, SameTime, Least, least, is_before}
use Rattle.rules.specs.Stamps.{Stamp, Earlier, is_earlier}

-- what is computed is in least terms, and the only fraction of that value that is
pub record LeastTerms (n d : ℕ) : Type 0 where
  pub right : Least n d (least n d)
  pub only : (t : Fraction) → Least n d t → t ≡ least n d
  pub small : (least n d).den ≤ d

abbrev pub AllLeastTerms : Type 0
AllLeastTerms = (n d : ℕ) → 0 < d → LeastTerms n d

-- the tests decide the relations
abbrev pub TestsRight : Type 0
TestsRight = ((s t : Fraction) → Decides (is_before s t) (Before s t)) × ((m k : Stamp) → Decides (is_earlier m k) (Earlier m k))

-- a strict total order R on those of which P holds, up to S
pub record Ordered {A : Type 0} (P : A → Type 0) (R S : A → A → Type 0) : Type 0 where
  pub trans : (x y z : A) → P x → P y → P z → R x y → R y z → R x z
  pub apart : (x y : A) → R x y → R y x → ⊥
  pub total : (x y : A) → P x → P y → R x y ⊎ (S x y ⊎ R y x)
  pub same : (x y : A) → P x → P y → S x y → R x y → ⊥

abbrev pub TimesOrdered : Type 0
TimesOrdered = Ordered Proper Before SameTime

abbrev pub SameStamp : Stamp → Stamp → Type 0
SameStamp m k = SameTime m.time k.time × (m.after ≡ k.after)

abbrev pub StampsOrdered : Type 0
StampsOrdered = Ordered (λ (m : Stamp). Proper m.time) Earlier SameStamp
