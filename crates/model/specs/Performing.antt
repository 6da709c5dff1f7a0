-- What each call does to the state, and what it tells.
use Rattle.std.specs.Prelude.{ℕ, [], Some, None, Option}
use Rattle.rules.specs.Fractions.{least}
use Rattle.rules.specs.Stamps.{Stamp, at}
use Rattle.model.specs.Halls.{Clock, quiet, due, Hall, State, together, certificate_in, next_due}
use Rattle.model.specs.Moves.{Out, enter, leave, change}
use Rattle.model.specs.Calls.{Change, entering, leaving, booking, Call, changing, setting, stepping, running, resting, touching, listing, asking, Reply, done, clock, stepped, ran, touches, certificate, refused, accepted, Done, only}
use Rattle.model.specs.Refusals.{pairs, refusal}
use Rattle.model.specs.Runs.{Ran, step, run}

-- a change at the present moment k
abbrev pub make : Change → Stamp → Hall → Out
make (entering c b) k = enter c b k
make (leaving c) k = leave c
make (booking x) k = change x k

-- a reply with nothing written: a question leaves the state, a clock changes it
abbrev pub told : Reply → State → Done
told r z = record { state = z; answer = only (accepted r) }

abbrev pub given : Clock → State → Done
given k z = told (clock k) (record { hall = z.hall; clock = k })

-- a reply with lines written
abbrev pub wrote : Reply → Clock → Out → Done
wrote r k o = record { state = record { hall = o.hall; clock = k }; answer = record { result = accepted r; lines = o.lines; list = []; page = [] } }

-- a step fires what is due
abbrev pub stepping_to : Option (ℕ × Stamp) → State → Done
stepping_to None z = told done z
stepping_to (Some f) z = let s = step f.0 f.1 z.hall in wrote (stepped s.number s.time s.news) z.clock s.out

abbrev pub running_on : Ran → Clock → Done
running_on r k = record { state = record { hall = r.hall; clock = k }; answer = record { result = accepted (ran r.ended r.steps); lines = r.lines; list = []; page = r.page } }

-- a call that is not refused
abbrev pub carried_out : Call → State → Done
carried_out (changing t x slip) z = wrote done z.clock (make x (at t) z.hall)
carried_out (setting t n d) z = given (due t (least n d)) z
carried_out (stepping t g slip) z = stepping_to (next_due g z.hall) z
carried_out (running t g slip page) z = running_on (run g slip page z.hall) z.clock
carried_out (resting t g) z = given (quiet g) z
carried_out (touching t c d) z = told (touches (together c d z.hall)) z
carried_out (listing t room) z = record { state = z; answer = record { result = accepted done; lines = []; list = pairs z.hall; page = [] } }
carried_out (asking s) z = told (certificate (certificate_in s z.hall)) z

-- a refusal alters nothing
abbrev pub unless : Option ℕ → Call → State → Done
unless None call z = carried_out call z
unless (Some n) call z = record { state = z; answer = only (refused n) }

abbrev pub perform : Call → State → Done
perform call z = unless (refusal call z) call z
