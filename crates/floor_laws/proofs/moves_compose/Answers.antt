use Rattle.floor_laws.proofs.Writes.{wrote_then}
use Rattle.floor_laws.proofs.moves_compose.Goals as goal

pub returns : goal.returns
returns c = wrote_then
