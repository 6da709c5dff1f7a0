-- The cue sheet: what a queue tells as it runs through every craft's breaks.
use Rattle.std.specs.Prelude.{ℕ, zero, suc, ◌+◌, ◌%◌, cond, List, [], ◌∷◌, Some, None, Ok, Err, Option, Result}
use Rattle.rules.specs.Fractions.{Fraction, tick, tick_made, whole}
use Rattle.rules.specs.Stamps.{Stamp, at}
use Rattle.rules.specs.Slots.{Queue}
use Rattle.rules.specs.Books.{Book, break_after, out_of_range}
use Rattle.queues.specs.Meanings.{changed, soonest}
use Rattle.rehearsal.specs.declared.cues.Cue.{Cue}

-- the moment of a tick; none above 50,000
abbrev pub made_stamp : Result Fraction ℕ → Option Stamp
made_stamp (Ok t) = Some (at t)
made_stamp (Err e) = None

abbrev pub tick_stamp : ℕ → Option Stamp
tick_stamp k = made_stamp (tick_made k)

abbrev pub break_stamp : Option ℕ → Option Stamp
break_stamp None = None
break_stamp (Some k) = tick_stamp k

-- the moment of a craft's first break after a time
abbrev pub next_stamp : Book → ℕ → Fraction → Option Stamp
next_stamp b c t = cond (out_of_range c) None (break_stamp (break_after b c t))

-- the queue with the first break after time 0 of the first n craft
unfoldable pub loaded : Book → ℕ → Queue → Queue
loaded b zero q = q
loaded b (suc c) q = changed (loaded b c q) (12288 + c) (next_stamp b c (tick 0))

-- the cue that a queue's first answer tells
abbrev pub cue_told : Option (ℕ × Stamp) → Option Cue
cue_told None = None
cue_told (Some p) = Some (record { tick = whole p.1.time; craft = p.0 % 64 })

-- what the queue holds once it is taken: the next break of that craft
abbrev pub cue_left : Book → Queue → Option (ℕ × Stamp) → Queue
cue_left b q None = q
cue_left b q (Some p) = changed q p.0 (next_stamp b (p.0 % 64) p.1.time)

abbrev pub and_so_on : Option Cue → List Cue → List Cue
and_so_on None cs = []
and_so_on (Some c) cs = c ∷ cs

-- at most n cues, as the queue tells them until it holds nothing
unfoldable pub cues_in : ℕ → Book → Queue → List Cue
cues_in zero b q = []
cues_in (suc n) b q = and_so_on (cue_told (soonest q)) (cues_in n b (cue_left b q (soonest q)))
