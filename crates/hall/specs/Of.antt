-- The hall of the code as a state of the model, and its clocks as those of the model.
use Rattle.std.specs.Prelude.{Some, None, Option}
use Rattle.rules.specs.Books.{Book}
use Rattle.rules.specs.Slots.{Queue}
use Rattle.times.specs.declared.time.Time.{Time}
use Rattle.times.specs.Of.{time_of}
use Rattle.model.specs.Halls.{Clock, quiet, due, State}
use Rattle.floor.specs.Of.{hall_of}
use Rattle.hall.specs.declared.hall.Hall as code
use Rattle.hall.specs.declared.hall.Quiet.{Quiet}
use Rattle.hall.specs.declared.hall.Due.{Due}

-- a clock at a time, with a goal or none
abbrev pub clock_at : Time → Option Time → Clock
clock_at t None = quiet (time_of t)
clock_at t (Some g) = due (time_of t) (time_of g)

abbrev pub quiet_of : Quiet → Clock
quiet_of q = quiet (time_of q.at)

abbrev pub due_of : Due → Clock
due_of d = due (time_of d.at) (time_of d.goal)

module _ {B Q : Type 0} where
  abbrev pub state_of : (B → Book) → (Q → Queue) → code.Hall B Q → State
  state_of meaning holds h = record { hall = hall_of meaning holds h.floor; clock = clock_at h.time h.goal }
