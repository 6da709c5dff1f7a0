-- A small show, in six rows, computed.
use Rattle.std.specs.Prelude.{◌≡◌, ℕ, Bool, true, false, List, [], ◌∷◌, ◌++◌, map, length, ℤ, pos, neg_ℤ}
use Rattle.rules.specs.Fractions.{tick}
use Rattle.rules.specs.Paths.{xyz}
use Rattle.rules.specs.Plans.{Plan, Leg}
use Rattle.rules.specs.Books.{Book, empty_book}
use Rattle.rules.specs.Boxes.{Box}
use Rattle.rules.specs.Pages.{met, parted}
use Rattle.model.specs.Halls.{quiet, due, opened}
use Rattle.model.specs.Calls.{entering, filing, Call, changing, setting, running, resting, touching, Reply, done, clock, ran, touches, accepted, Answer}
use Rattle.model.specs.Histories.{Event, events, reports}

abbrev pub cube : ℕ → Box
cube n = record { half = λ _. n }

-- a leg along x
abbrev pub along_x : ℕ → ℤ → Leg
along_x i v = record { from = i; speed = xyz v (pos 0) (pos 0) }

-- a plan from (100, 0, 0)
abbrev pub from_100 : List Leg → ℕ → Plan
from_100 ls e = record { start = xyz (pos 100) (pos 0) (pos 0); count = length ls; legs = ls; end = e }

-- craft 1 files, then 0 and 1 enter
abbrev pub opening : Plan → List Call
opening p = changing (tick 0) (filing 1 p) 12224 ∷ changing (tick 0) (entering 0 (cube 10)) 190 ∷ changing (tick 0) (entering 1 (cube 10)) 190 ∷ []

-- from one tick to the next: set forward, run, rest, and ask whether 0 and 1 touch
abbrev pub on_to : ℕ → ℕ → List Call
on_to s t = setting (tick s) t 1 ∷ running (tick s) (tick t) 1000 100 ∷ resting (tick s) (tick t) ∷ touching (tick t) 0 1 ∷ []

-- an answer that writes these lines and this page
abbrev pub answer : Reply → List ℕ → List ℕ → Answer
answer r lines page = record { result = accepted r; lines = lines; list = []; page = page }

-- the answers to those four calls
abbrev pub going : ℕ → ℕ → ℕ → List ℕ → List ℕ → Bool → List Answer
going s t steps lines page touch =
    answer (clock (due (tick s) (tick t))) [] [] ∷ answer (ran 0 steps) lines page ∷ answer (clock (quiet (tick t))) [] [] ∷ answer (touches touch) [] [] ∷ []

abbrev pub answers : Book → List Call → List Answer
answers b calls = map (λ (e : Event). e.answer) (events calls (opened b))

-- rows 1 to 5, over the single-leg book
abbrev pub Rows1To5 : Type 0
Rows1To5 =
    answers (empty_book 1) (opening (from_100 (along_x 0 (neg_ℤ (pos 3)) ∷ []) 60) ++ (on_to 0 30 ++ (on_to 30 40 ++ on_to 40 50)))
    ≡ answer done [] []
    ∷ answer done (5 ∷ []) []
    ∷ answer done (9 ∷ 13 ∷ 17 ∷ 21 ∷ []) []
    ∷ going 0 30 1 (10 ∷ 25 ∷ []) (0x01 ∷ 0x00 ∷ 0x08 ∷ 0x00 ∷ 0x01 ∷ 0x00 ∷ 0x00 ∷ 0x00 ∷ 0x50 ∷ 0x00 ∷ 0x03 ∷ []) true
    ++ (going 30 40 0 [] [] true
    ++ going 40 50 1 (26 ∷ 29 ∷ []) (0x02 ∷ 0x00 ∷ 0x08 ∷ 0x00 ∷ 0x01 ∷ 0x00 ∷ 0x00 ∷ 0x00 ∷ 0x28 ∷ 0x00 ∷ 0x01 ∷ []) false)

-- row 6, over the itinerary book: meeting and parting both at 10
abbrev pub Row6 : Type 0
Row6 =
    reports (events (opening (from_100 (along_x 0 (neg_ℤ (pos 8)) ∷ along_x 10 (pos 8) ∷ []) 20) ++ on_to 0 30) (opened (empty_book 8)))
    ≡ record { time = tick 10; news = met 0 1 } ∷ record { time = tick 10; news = parted 0 1 } ∷ []

abbrev pub SmallShow : Type 0
SmallShow = Rows1To5 × Row6
