use Rattle.std.proofs.Common.{ℕ, sym, subst, arith}
use Rattle.rules.specs.Fractions.{Divides}
use Rattle.rules.proofs.Divide.{divides_rem, divides_back, divides_zero}
use Rattle.times.proofs.time.gcd.gcd.Goals as goal

pub loop-b-preserved : goal.loop-b-preserved
loop-b-preserved c = (
  omega arith,
  (λ k p q. c.loop-b.invariant.1 k (divides_back k c.loop-b.a c.loop-b.b p q) p),
  (λ k p q. let i = c.loop-b.invariant.2 k p q in (i.1, divides_rem k c.loop-b.a c.loop-b.b i.0 i.1)),
)

pub returns : goal.returns
returns c =
    record {
      positive = omega arith;
      parts = λ k d. c.loop-b.invariant.1 k d (subst (λ (x : ℕ). Divides k x) (sym c.loop-b-test.false) (divides_zero k));
      common = λ k p q. (c.loop-b.invariant.2 k p q).0;
    }
