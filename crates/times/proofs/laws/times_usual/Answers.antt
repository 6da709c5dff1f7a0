use Rattle.times.proofs.Times.{equal_fields, times_usual}
use Rattle.times.proofs.laws.times_usual.Goals as goal

pub returns : goal.returns
returns c = record { equal = equal_fields; usual = times_usual }
