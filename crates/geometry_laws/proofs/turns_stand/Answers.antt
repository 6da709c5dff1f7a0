use Rattle.geometry_laws.proofs.Near.{touches_told}
use Rattle.geometry_laws.proofs.Turns.{all_turns_told}
use Rattle.geometry_laws.proofs.turns_stand.Goals as goal

pub returns : goal.returns
returns c = record { touches = touches_told; turns = all_turns_told }
