-- Lines as a console without the hall reads them.
use Rattle.std.specs.Prelude.{Bool, true, false, cond, Some, None, Ok, Err, Option, Result}
use Rattle.console_read.specs.declared.command.Command.{Command}
use Rattle.console_read.specs.declared.command.Command.TheVariants.{Open, Room, File, Ride, Enter, Leave, Set, Step, Run, Rest, Touching, List, Certificate, Leg, Follows, Cues}
use Rattle.console_read.specs.declared.parsing.Unreadable.{Unreadable}

-- the commands that need the hall
abbrev pub hall_work : Command → Bool
hall_work (Open b l q) = false
hall_work (Room s p l) = false
hall_work (File f) = false
hall_work (Ride c l k) = false
hall_work (Enter c h) = true
hall_work (Leave c) = true
hall_work (Set t) = true
hall_work Step = true
hall_work Run = true
hall_work Rest = true
hall_work (Touching a b) = true
hall_work List = true
hall_work (Certificate s) = true
hall_work (Leg c t) = false
hall_work (Follows d c) = false
hall_work Cues = false

-- the hall's commands cannot be read
abbrev pub heard_of : Result (Option Command) Unreadable → Result (Option Command) Unreadable
heard_of (Ok None) = Ok None
heard_of (Ok (Some c)) = cond (hall_work c) (Err (record {})) (Ok (Some c))
heard_of (Err e) = Err e
