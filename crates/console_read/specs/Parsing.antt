-- What a line is read as.
use Rattle.std.specs.Prelude.{ℕ, cond, List, length, Some, None, Ok, Err, Option, Result, ◌==◌, nat_lt}
use Rattle.console_text.specs.Texts.{before_comment, words}
use Rattle.console_read.specs.Keywords.{keyword_of}
use Rattle.console_read.specs.Shapes.{Words, at, and_then, of_words, open_of, room_of, file_of, ride_of, enter_of, leave_of, set_of, touching_of, certificate_of, leg_of, follows_of}
use Rattle.console_read.specs.declared.command.Command.{Command}
use Rattle.console_read.specs.declared.command.Command.TheVariants.{Step as do_step, Run as do_run, Rest as do_rest, List as do_list, Cues as do_cues}
use Rattle.console_read.specs.declared.keyword.Keyword.{Keyword}
use Rattle.console_read.specs.declared.keyword.Keyword.TheVariants.{Open, Room, File, Ride, Enter, Leave, Set, Step, Run, Rest, Touching, List as Listing, Certificate, Leg, Follows, Cues}
use Rattle.console_read.specs.declared.parsing.Unreadable.{Unreadable}

-- a command of one word
abbrev pub alone_of : Words → Command → Option Command
alone_of ws c = of_words 1 ws (Some c)

abbrev pub command_of : Keyword → Words → Option Command
command_of Open ws = open_of ws
command_of Room ws = room_of ws
command_of File ws = file_of ws
command_of Ride ws = ride_of ws
command_of Enter ws = enter_of ws
command_of Leave ws = leave_of ws
command_of Set ws = set_of ws
command_of Step ws = alone_of ws do_step
command_of Run ws = alone_of ws do_run
command_of Rest ws = alone_of ws do_rest
command_of Touching ws = touching_of ws
command_of Listing ws = alone_of ws do_list
command_of Certificate ws = certificate_of ws
command_of Leg ws = leg_of ws
command_of Follows ws = follows_of ws
command_of Cues ws = alone_of ws do_cues

-- the first word names the command
abbrev pub told_of : Words → Option Command
told_of ws = and_then (keyword_of (at ws 0)) (λ k. command_of k ws)

abbrev pub ready : Option Command → Result (Option Command) Unreadable
ready None = Err (record {})
ready (Some c) = Ok (Some c)

-- a line with no word is passed over
abbrev pub words_read : Words → Result (Option Command) Unreadable
words_read ws = cond (length ws == 0) (Ok None) (ready (told_of ws))

-- a line without its end; one longer than 1,000 bytes cannot be read
abbrev pub parsed_of : List ℕ → Result (Option Command) Unreadable
parsed_of line = cond (nat_lt 1000 (length line)) (Err (record {})) (words_read (words (before_comment line)))
