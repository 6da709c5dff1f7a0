use Rattle.events.proofs.Reports.{reports_hold, bits_tell}
use Rattle.events.proofs.Changes.{changes_rest, empty_rests}
use Rattle.events.proofs.machine_stands.Goals as goal

pub returns : goal.returns
returns c = record { reports = reports_hold; bits = bits_tell; changes = changes_rest; empty = empty_rests }
