-- Moves that write their lines on a slip of the code.
use Rattle.std.specs.Prelude.{◌≡◌}
use Rattle.slots.specs.declared.slips.Slip.{Slip}
use Rattle.model.specs.Halls.{Hall}
use Rattle.floor_laws.specs.Writing.{Move, Wrote, Fits}

-- the slip has room for the lines of f, and there are numbers enough
abbrev pub FitsIn : Move → Hall → Slip → Type 0
FitsIn f m s = Fits f s.used m s.lines.now

-- the move f led from the hall m and the slip s to m' and s', with its lines on the same slip after those that were there
pub record Moved (f : Move) (m m' : Hall) (s s' : Slip) : Type 0 where
  pub wrote : Wrote f s.used m m' s.lines.now s'.lines.now s'.used
  pub same : s'.lines.ghost_name ≡ s.lines.ghost_name
