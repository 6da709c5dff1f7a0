use Rattle.std.proofs.Common.{refl}
use Rattle.queues.specs.declared.entry.Entry.{Entry}
use Rattle.calendar_queue.specs.Tables.{empty_at}
use Rattle.calendar_queue.specs.Matches.{no_matches}
use Rattle.calendar_queue.proofs.crown.Crown.new.Goals as goal

pub invariant_of-result : goal.invariant_of-result
invariant_of-result c = record { sized = refl; matched = no_matches 256 }

pub returns : goal.returns
returns c = λ k. empty_at {A = Entry} 256 k
