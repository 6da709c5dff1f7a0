use Rattle.geometry_laws.proofs.Quick.{quick_right}
use Rattle.geometry_laws.proofs.quick_stands.Goals as goal

pub returns : goal.returns
returns c = quick_right
