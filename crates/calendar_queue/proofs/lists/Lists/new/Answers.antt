use Rattle.std.proofs.Common.{ℕ, None, Option, arith}
use Rattle.std.proofs.lemmas.List.{length-replicate}
use Rattle.times.specs.declared.moment.Moment.{Moment}
use Rattle.calendar_queue.specs.declared.lists.TheConstants.{NO_SLOT}
use Rattle.calendar_queue.specs.Tables.{empty_at}
use Rattle.calendar_queue.specs.Changes.{empty_linked, empty_head}
use Rattle.calendar_queue.proofs.lists.Lists.new.Goals as goal

pub invariant_of-result : goal.invariant_of-result
invariant_of-result c = record { held = length-replicate {A = Option Moment} 12352 None; placed = length-replicate {A = ℕ} 12480 NO_SLOT; linked = empty_linked 12352 12480 NO_SLOT (omega arith) }

pub returns : goal.returns
returns c = record { moments = λ k. empty_at 12352 k; heads = λ b l. empty_head 12352 12480 NO_SLOT b }
