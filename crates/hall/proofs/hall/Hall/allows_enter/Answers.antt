use Rattle.std.proofs.Common.{rules}
use Rattle.geometry.specs.Of.{box_of}
use Rattle.hall.proofs.Room.{sizes_made}
use Rattle.hall.proofs.hall.Hall.allows_enter.Goals as goal

pub returns-clause-entering : goal.returns-clause-entering
returns-clause-entering g c =
    let h = c.args.half in
    (search rules, sizes_made h.0 h.1 h.2 (box_of c.in_ok-sizes.sizes) c.in_ok-sizes.ensures)
