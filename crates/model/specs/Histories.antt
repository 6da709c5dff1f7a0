-- What a history of calls and their answers tells by itself.
use Rattle.std.specs.Prelude.{ℕ, List, [], ◌∷◌, ◌++◌, Some, None, Option}
use Rattle.rules.specs.Basics.{put, the}
use Rattle.rules.specs.Fractions.{Fraction, tick}
use Rattle.rules.specs.Books.{Book, BookChange, changed_by}
use Rattle.rules.specs.Boxes.{Box}
use Rattle.rules.specs.Pages.{News, Report, page_read}
use Rattle.model.specs.Halls.{Clock, quiet, State}
use Rattle.model.specs.Calls.{Change, entering, leaving, booking, Call, changing, setting, stepping, running, resting, touching, listing, asking, done, clock, stepped, ran, touches, certificate, Result, refused, accepted, Answer}
use Rattle.model.specs.Performing.{perform}

-- a call that was made, and what it was told
pub record Event : Type 0 where
  pub call : Call
  pub answer : Answer

-- calls made one after another, and the state after them
abbrev pub events : List Call → State → List Event
events [] z = []
events (c ∷ cs) z = let d = perform c z in record { call = c; answer = d.answer } ∷ events cs d.state

abbrev pub after : List Call → State → State
after [] z = z
after (c ∷ cs) z = after cs (perform c z).state

-- THE LINES TOLD: the slips joined
abbrev pub lines_told : List Event → List ℕ
lines_told [] = []
lines_told (e ∷ es) = e.answer.lines ++ lines_told es

-- THE CHANGES ACCEPTED
abbrev pub change_of : Call → List Change
change_of (changing t x slip) = x ∷ []
change_of (setting t n d) = []
change_of (stepping t g slip) = []
change_of (running t g slip page) = []
change_of (resting t g) = []
change_of (touching t c d) = []
change_of (listing t room) = []
change_of (asking s) = []

abbrev pub if_accepted : {A : Type 0} → Result → List A → List A
if_accepted (refused n) xs = []
if_accepted (accepted r) xs = xs

abbrev pub changes : List Event → List Change
changes [] = []
changes (e ∷ es) = if_accepted e.answer.result (change_of e.call) ++ changes es

-- THE BOOK NOW: as opened, with each accepted filing and ride
abbrev pub book_changes : List Change → List BookChange
book_changes [] = []
book_changes (entering c b ∷ xs) = book_changes xs
book_changes (leaving c ∷ xs) = book_changes xs
book_changes (booking x ∷ xs) = x ∷ book_changes xs

abbrev pub book_now : Book → List Change → Book
book_now b xs = changed_by (book_changes xs) b

-- THE CRAFT ENTERED NOW, with their boxes: from an accepted entering to the accepted leaving
abbrev pub boxes_with : Change → (ℕ → Option Box) → ℕ → Option Box
boxes_with (entering c b) f = put f c (Some b)
boxes_with (leaving c) f = put f c None
boxes_with (booking x) f = f

abbrev pub boxes_from : (ℕ → Option Box) → List Change → ℕ → Option Box
boxes_from f [] = f
boxes_from f (x ∷ xs) = boxes_from (boxes_with x f) xs

abbrev pub boxes_now : List Change → ℕ → Option Box
boxes_now = boxes_from (λ _. None)

-- THE CLOCK NOW: the last one given, at first a quiet one at 0
abbrev pub clock_given : Result → Clock → Clock
clock_given (refused n) k = k
clock_given (accepted done) k = k
clock_given (accepted (clock k')) k = k'
clock_given (accepted (stepped n t w)) k = k
clock_given (accepted (ran n s)) k = k
clock_given (accepted (touches b)) k = k
clock_given (accepted (certificate o)) k = k

abbrev pub clock_from : Clock → List Event → Clock
clock_from k [] = k
clock_from k (e ∷ es) = clock_from (clock_given e.answer.result k) es

abbrev pub clock_now : List Event → Clock
clock_now = clock_from (quiet (tick 0))

-- THE REPORTS TOLD: by a step's answer, and by a run's page as its bytes read back
abbrev pub stepped_with : Fraction → Option News → List Report
stepped_with t None = []
stepped_with t (Some w) = record { time = t; news = w } ∷ []

abbrev pub step_report : Result → List Report
step_report (refused n) = []
step_report (accepted done) = []
step_report (accepted (clock k)) = []
step_report (accepted (stepped n t w)) = stepped_with t w
step_report (accepted (ran n s)) = []
step_report (accepted (touches b)) = []
step_report (accepted (certificate o)) = []

abbrev pub page_reports : List ℕ → List Report
page_reports page = the [] (page_read page)

abbrev pub reports : List Event → List Report
reports [] = []
reports (e ∷ es) = step_report e.answer.result ++ (page_reports e.answer.page ++ reports es)
