-- What is looked at before a command is carried out.
use Rattle.std.specs.Prelude.{ℕ, List, Some, None, Ok, Err, codes, Option, Result}
use Rattle.console_read.specs.declared.command.Command.{Command}
use Rattle.console_read.specs.declared.command.Command.TheVariants.{Open, Room, File, Ride, Enter, Leave, Set, Step, Run, Rest, Touching, List as Listing, Certificate, Leg, Follows, Cues}
use Rattle.console_read.specs.declared.gate.Clock.{Clock}
use Rattle.console_read.specs.declared.gate.Clock.TheVariants.{Quiet, Due}
use Rattle.console_read.specs.declared.gate.Stop.{Stop}
use Rattle.console_read.specs.declared.gate.Stop.TheVariants.{NotOpen, AlreadyOpen, ClockIsQuiet, ClockIsDue}

-- the clock that a command needs
abbrev pub need_of : Command → Option Clock
need_of (Open b l q) = None
need_of (Room s p l) = None
need_of (File f) = Some Quiet
need_of (Ride c l k) = Some Quiet
need_of (Enter c h) = Some Quiet
need_of (Leave c) = Some Quiet
need_of (Set t) = Some Quiet
need_of Step = Some Due
need_of Run = Some Due
need_of Rest = Some Due
need_of (Touching a b) = Some Quiet
need_of Listing = Some Quiet
need_of (Certificate s) = None
need_of (Leg c t) = None
need_of (Follows d c) = None
need_of Cues = None

-- whether the clock stops it
abbrev pub clock_stops : Option Clock → Clock → Result (Unit {0}) Stop
clock_stops None k = Ok tt
clock_stops (Some Quiet) Quiet = Ok tt
clock_stops (Some Quiet) Due = Err ClockIsDue
clock_stops (Some Due) Quiet = Err ClockIsQuiet
clock_stops (Some Due) Due = Ok tt

-- work needs an open console, and then the kind of clock
abbrev pub works : Option Clock → Option Clock → Result (Unit {0}) Stop
works n None = Err NotOpen
works n (Some k) = clock_stops n k

-- an opening needs a closed console
abbrev pub opens : Option Clock → Result (Unit {0}) Stop
opens None = Ok tt
opens (Some k) = Err AlreadyOpen

-- first whether the console is open, then the kind of clock
abbrev pub stopped_by : Command → Option Clock → Result (Unit {0}) Stop
stopped_by (Open b l q) k = opens k
stopped_by (Room s p l) k = Ok tt
stopped_by c k = works (need_of c) k

-- why, in words
abbrev pub stop_text : Stop → List ℕ
stop_text NotOpen = codes "not open"
stop_text AlreadyOpen = codes "already open"
stop_text ClockIsQuiet = codes "clock is quiet"
stop_text ClockIsDue = codes "clock is due"
