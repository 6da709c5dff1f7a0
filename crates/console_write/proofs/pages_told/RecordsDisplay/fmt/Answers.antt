use Rattle.std.proofs.Common.{true, ◌≡◌, ◌++◌, refl}
use Rattle.std.proofs.Output.{has_written_append, has_written_of_eq}
use Rattle.pages.specs.Of.{no_more, found, damage, next_in, record_told}
use Rattle.console_write.specs.Pages.{report_text}
use Rattle.console_write.proofs.Records.{more_written, all_written}
use Rattle.console_write.proofs.pages_told.RecordsDisplay.fmt.Goals as goal

pub records-preserved : goal.records-preserved
records-preserved g c = λ p.
    let i = c.records.invariant p in
    let r = record_told c.in-Ok-Some.record in
    let t : found r ≡ next_in c.records.reader.rest.now = cc in
    (i.0 ++ report_text r, has_written_append _ _ _ _ _ _ i.1 (c.in_ok-write.ensures.writes i.1.plain (refl {a = true})), more_written i.0 _ c.records.reader.rest.now _ r i.2 t c.next.ensures.left)

pub returns-in_default-clause-writes : goal.returns-in_default-clause-writes
returns-in_default-clause-writes g c = λ p ok.
    let i = c.records.invariant p in
    let t : no_more ≡ next_in c.records.reader.rest.now = cc in
    has_written_of_eq _ _ _ _ _ (all_written i.0 _ _ no_more i.2 t (λ x. refl)) i.1

pub returns-in_default-2-clause-writes : goal.returns-in_default-2-clause-writes
returns-in_default-2-clause-writes g c = λ p ok.
    let i = c.records.invariant p in
    let t : damage ≡ next_in c.records.reader.rest.now = cc in
    has_written_of_eq _ _ _ _ _ (all_written i.0 _ _ damage i.2 t (λ x. refl)) i.1
