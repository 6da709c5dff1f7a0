use Rattle.rules.proofs.Made.{least_terms}
use Rattle.rules.proofs.Ordering.{tests_right, times_ordered, stamps_ordered}
use Rattle.rules.proofs.times_stand.Goals as goal

pub returns : goal.returns
returns c = record { least = least_terms; tests = tests_right; times = times_ordered; stamps = stamps_ordered }
