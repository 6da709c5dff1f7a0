use Rattle.geometry_laws.proofs.Flips.{sides_told, flips_once}
use Rattle.geometry_laws.proofs.flips_stand.Goals as goal

pub returns : goal.returns
returns c = record { sides = sides_told; once = flips_once }
