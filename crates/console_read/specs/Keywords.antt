-- The fixed words of commands.
use Rattle.std.specs.Prelude.{ℕ, cond, List, Some, None, codes, Option}
use Rattle.std.specs.Str.{bytes_eq}
use Rattle.console_read.specs.declared.command.Book.{Book}
use Rattle.console_read.specs.declared.command.Book.TheVariants.{Single, Itinerary}
use Rattle.console_read.specs.declared.command.Command.{Command}
use Rattle.console_read.specs.declared.command.Command.TheVariants.{Open as AnOpen, Room as ARoom, File as AFile, Ride as ARide, Enter as AnEnter, Leave as ALeave, Set as ASet, Step as AStep, Run as ARun, Rest as ARest, Touching as ATouching, List as AList, Certificate as ACertificate, Leg as ALeg, Follows as AFollows, Cues as ACues}
use Rattle.console_read.specs.declared.command.Queue.{Queue}
use Rattle.console_read.specs.declared.command.Queue.TheVariants.{Heap, Calendar}
use Rattle.console_read.specs.declared.keyword.Keyword.{Keyword}
use Rattle.console_read.specs.declared.keyword.Keyword.TheVariants.{Open, Room, File, Ride, Enter, Leave, Set, Step, Run, Rest, Touching, List as Listing, Certificate, Leg, Follows, Cues}

abbrev pub asking_of : List ℕ → Option Keyword
asking_of w =
    cond (bytes_eq w (codes "step")) (Some Step)
    (cond (bytes_eq w (codes "run")) (Some Run)
    (cond (bytes_eq w (codes "rest")) (Some Rest)
    (cond (bytes_eq w (codes "touching")) (Some Touching)
    (cond (bytes_eq w (codes "list")) (Some Listing)
    (cond (bytes_eq w (codes "certificate")) (Some Certificate)
    (cond (bytes_eq w (codes "leg")) (Some Leg)
    (cond (bytes_eq w (codes "follows")) (Some Follows)
    (cond (bytes_eq w (codes "cues")) (Some Cues) None))))))))

-- the command that a first word names
abbrev pub keyword_of : List ℕ → Option Keyword
keyword_of w =
    cond (bytes_eq w (codes "open")) (Some Open)
    (cond (bytes_eq w (codes "room")) (Some Room)
    (cond (bytes_eq w (codes "file")) (Some File)
    (cond (bytes_eq w (codes "ride")) (Some Ride)
    (cond (bytes_eq w (codes "enter")) (Some Enter)
    (cond (bytes_eq w (codes "leave")) (Some Leave)
    (cond (bytes_eq w (codes "set")) (Some Set) (asking_of w)))))))

abbrev pub book_of : List ℕ → Option Book
book_of w = cond (bytes_eq w (codes "single")) (Some Single) (cond (bytes_eq w (codes "itinerary")) (Some Itinerary) None)

abbrev pub queue_of : List ℕ → Option Queue
queue_of w = cond (bytes_eq w (codes "heap")) (Some Heap) (cond (bytes_eq w (codes "calendar")) (Some Calendar) None)

-- the word of a keyword
abbrev pub keyword_text : Keyword → List ℕ
keyword_text Open = codes "open"
keyword_text Room = codes "room"
keyword_text File = codes "file"
keyword_text Ride = codes "ride"
keyword_text Enter = codes "enter"
keyword_text Leave = codes "leave"
keyword_text Set = codes "set"
keyword_text Step = codes "step"
keyword_text Run = codes "run"
keyword_text Rest = codes "rest"
keyword_text Touching = codes "touching"
keyword_text Listing = codes "list"
keyword_text Certificate = codes "certificate"
keyword_text Leg = codes "leg"
keyword_text Follows = codes "follows"
keyword_text Cues = codes "cues"

-- the keyword of a command
abbrev pub keyword_in : Command → Keyword
keyword_in (AnOpen b l q) = Open
keyword_in (ARoom s p l) = Room
keyword_in (AFile f) = File
keyword_in (ARide c l k) = Ride
keyword_in (AnEnter c h) = Enter
keyword_in (ALeave c) = Leave
keyword_in (ASet t) = Set
keyword_in AStep = Step
keyword_in ARun = Run
keyword_in ARest = Rest
keyword_in (ATouching a b) = Touching
keyword_in AList = Listing
keyword_in (ACertificate s) = Certificate
keyword_in (ALeg c t) = Leg
keyword_in (AFollows d c) = Follows
keyword_in ACues = Cues
