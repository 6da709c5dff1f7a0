-- What the first wrong moment of a bit comes to.
use Rattle.std.specs.Prelude.{◌≡◌, ◌≤◌, Bool, true, false, not, ◌-ℤ◌, IfSome, Some, Option, unsigned_abs}
use Rattle.rules.specs.Fractions.{Proper, NotAfter, Coprime, Usual, tick}
use Rattle.rules.specs.Stamps.{Stamp, is_earlier}
use Rattle.rules.specs.Boxes.{Ends, overlap, wrong, fails, Fails}

-- the slopes of the ends that can come to one value differ by at most 16,000: so it is with any lines that a scale of at most 8 allows
pub record Slow (p q : Ends) : Type 0 where
  pub one : unsigned_abs (p.low.slope -ℤ q.high.slope) ≤ 16000
  pub two : unsigned_abs (q.low.slope -ℤ p.high.slope) ≤ 16000

-- over all fractions of any denominator: wrong at the moment computed, right from m until then; or right at all of them
abbrev pub CertificatesRight : Type 0
CertificatesRight = (bit : Bool) (p q : Ends) (m : Stamp) → Proper m.time → NotAfter m.time (tick 50000) → Slow p q → Fails bit p q m (fails bit p q m)

-- the answer is in least terms with a denominator of at most 16,000
abbrev pub CertificatesUsual : Type 0
CertificatesUsual = (bit : Bool) (p q : Ends) (m : Stamp) → Usual m.time → IfSome (fails bit p q m) (λ k. Usual k.time)

abbrev pub InLeast : Option Stamp → Type 0
InLeast r = IfSome r (λ k. Coprime k.time.num k.time.den)

-- and the only answer that is in least terms
abbrev pub CertificatesOne : Type 0
CertificatesOne = (bit : Bool) (p q : Ends) (m : Stamp) (r : Option Stamp) → Proper m.time → NotAfter m.time (tick 50000) → Slow p q → Coprime m.time.num m.time.den → Fails bit p q m r → InLeast r → r ≡ fails bit p q m

-- a right bit goes wrong just after a time where it is true, and at a time where it is false
abbrev pub SidesTold : Type 0
SidesTold = (bit : Bool) (p q : Ends) (m k : Stamp) → Proper m.time → NotAfter m.time (tick 50000) → Slow p q → wrong bit (overlap p q m) ≡ false → fails bit p q m ≡ Some k → k.after ≡ bit

-- a bit that is wrong is right when it is flipped, and then stays right at that moment: it flips at most once there
pub record FlipsOnce (bit : Bool) (p q : Ends) (m k : Stamp) : Type 0 where
  pub flipped : wrong (not bit) (overlap p q k) ≡ false
  pub once : (j : Stamp) → fails (not bit) p q k ≡ Some j → is_earlier k j ≡ true

abbrev pub AllFlipOnce : Type 0
AllFlipOnce = (bit : Bool) (p q : Ends) (m k : Stamp) → Proper m.time → NotAfter m.time (tick 50000) → Slow p q → fails bit p q m ≡ Some k → FlipsOnce bit p q m k
