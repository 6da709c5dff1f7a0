use Rattle.std.proofs.Common.{arith}
use Rattle.times.proofs.Times.{coprime_one}
use Rattle.times.proofs.time.Time.zero.Goals as goal

pub invariant_of-result : goal.invariant_of-result
invariant_of-result c = record { positive = omega arith; small = omega arith; inside = omega arith; least = coprime_one _ }
