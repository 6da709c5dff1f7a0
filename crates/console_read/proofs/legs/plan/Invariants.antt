use Rattle.console_read.specs.Shapes.{left}
use Rattle.console_read.proofs.Filed.{SoFar}
use Rattle.console_read.proofs.legs.plan.Given as goal

abbrev pub invariant-loop-rest : goal.invariant-loop-rest
invariant-loop-rest l = SoFar l.legs l.count (left l.rest) (left l.fn.rest)
