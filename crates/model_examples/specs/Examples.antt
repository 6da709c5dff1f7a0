-- Further closed histories, computed: the order of lines at a leg's firing, rides and followers, runs cut short, and the order of refusals.
use Rattle.std.specs.Prelude.{◌≡◌, ℕ, List, [], ◌∷◌, pos, neg_ℤ, Some, None}
use Rattle.rules.specs.Fractions.{tick}
use Rattle.rules.specs.Stamps.{at}
use Rattle.rules.specs.Paths.{xyz}
use Rattle.rules.specs.Plans.{Plan}
use Rattle.rules.specs.Books.{Book, empty_book, layered}
use Rattle.model.specs.Halls.{quiet, due}
use Rattle.model.specs.Calls.{Change, entering, leaving, filing, riding, Call, changing, setting, stepping, running, resting, touching, listing, asking, Reply, done, clock, stepped, ran, certificate, refused, accepted, Answer}
use Rattle.model.specs.Show.{cube, along_x, from_100, answer, answers}

-- a book with one level
abbrev one_level : Book
one_level = layered (λ _. None) (empty_book 1)

-- a change at tick t, with slip enough
abbrev at_tick : ℕ → Change → Call
at_tick t x = changing (tick t) x 12224

-- answers: carried out with these lines; another reply with nothing written; a list; a refusal
abbrev wrote : List ℕ → Answer
wrote ls = answer done ls []

abbrev replied : Reply → Answer
replied r = answer r [] []

abbrev listed : List ℕ → Answer
listed xs = record { result = accepted done; lines = []; list = xs; page = [] }

abbrev refuses : ℕ → Answer
refuses n = record { result = refused n; lines = []; list = []; page = [] }

-- Three craft, one of which turns at tick 5: the fired line; on each axis the withdrawals, then the grants; the leg's grant.
abbrev three : List Call
three =
    at_tick 0 (filing 1 (record { start = λ _. pos 0; count = 1; legs = along_x 5 (pos 1) ∷ []; end = 9 }))
    ∷ at_tick 0 (entering 0 (cube 1000)) ∷ at_tick 0 (entering 1 (cube 1000)) ∷ at_tick 0 (entering 2 (cube 1000))
    ∷ setting (tick 0) 5 1 ∷ stepping (tick 0) (tick 5) 380 ∷ resting (tick 0) (tick 5)
    ∷ listing (tick 5) 3 ∷ at_tick 5 (leaving 1) ∷ listing (tick 5) 0 ∷ listing (tick 5) 1 ∷ []

abbrev pub ThreeTold : Type 0
ThreeTold = answers (empty_book 1) three ≡
    wrote []
    ∷ wrote (5 ∷ []) ∷ wrote (9 ∷ 13 ∷ 17 ∷ 21 ∷ []) ∷ wrote (25 ∷ 29 ∷ 33 ∷ 37 ∷ 41 ∷ 45 ∷ 49 ∷ [])
    ∷ replied (clock (due (tick 0) (tick 5)))
    ∷ answer (stepped 5 (tick 5) None) (22 ∷ 11 ∷ 31 ∷ 53 ∷ 57 ∷ 15 ∷ 39 ∷ 61 ∷ 65 ∷ 19 ∷ 47 ∷ 69 ∷ 73 ∷ 77 ∷ []) []
    ∷ replied (clock (quiet (tick 5)))
    ∷ listed (1 ∷ 2 ∷ 66 ∷ []) ∷ wrote (55 ∷ 59 ∷ 63 ∷ 67 ∷ 71 ∷ 75 ∷ 79 ∷ []) ∷ refuses 15 ∷ listed (2 ∷ []) ∷ []

-- Craft 1 rides on craft 0, and both come to craft 2; what is set of 0 moves both.
abbrev formation : List Call
formation =
    at_tick 0 (filing 0 (record { start = λ _. pos 0; count = 1; legs = along_x 0 (pos 5) ∷ []; end = 100 }))
    ∷ at_tick 0 (filing 1 (record { start = xyz (pos 0) (pos 50) (pos 0); count = 1; legs = along_x 1000 (pos 0) ∷ []; end = 1001 }))
    ∷ at_tick 0 (filing 2 (record { start = xyz (pos 200) (pos 25) (pos 0); count = 1; legs = along_x 1000 (pos 0) ∷ []; end = 1001 }))
    ∷ at_tick 0 (entering 0 (cube 20)) ∷ at_tick 0 (entering 1 (cube 20)) ∷ at_tick 0 (entering 2 (cube 20))
    ∷ at_tick 0 (riding 1 0 (Some 0)) ∷ asking 66 ∷ asking 12289
    ∷ at_tick 0 (filing 0 (record { start = λ _. pos 0; count = 1; legs = along_x 0 (pos 4) ∷ []; end = 80 }))
    ∷ setting (tick 0) 100 2 ∷ running (tick 0) (tick 50) 1000 100 ∷ resting (tick 0) (tick 50)
    ∷ listing (tick 50) 10 ∷ at_tick 50 (riding 1 0 None) ∷ listing (tick 50) 10 ∷ []

abbrev pub FormationTold : Type 0
FormationTold = answers one_level formation ≡
    wrote [] ∷ wrote [] ∷ wrote []
    ∷ wrote (5 ∷ []) ∷ wrote (9 ∷ 13 ∷ 17 ∷ 21 ∷ []) ∷ wrote (25 ∷ 29 ∷ 33 ∷ 37 ∷ 41 ∷ 45 ∷ 49 ∷ [])
    ∷ wrote (11 ∷ 31 ∷ 15 ∷ 39 ∷ 19 ∷ 47 ∷ 23 ∷ 53 ∷ 57 ∷ 61 ∷ 65 ∷ 69 ∷ 73 ∷ 77 ∷ [])
    ∷ replied (certificate (Some (record { number = 14; fails = Some (at (tick 32)) })))
    ∷ replied (certificate (Some (record { number = 19; fails = Some (at (tick 100)) })))
    ∷ wrote (55 ∷ 27 ∷ 63 ∷ 35 ∷ 71 ∷ 43 ∷ 7 ∷ 59 ∷ 67 ∷ 75 ∷ 79 ∷ 81 ∷ 85 ∷ 89 ∷ 93 ∷ 97 ∷ 101 ∷ 105 ∷ 109 ∷ 113 ∷ 117 ∷ 121 ∷ [])
    ∷ replied (clock (due (tick 0) (tick 50)))
    ∷ answer (ran 0 2) (82 ∷ 125 ∷ 102 ∷ 129 ∷ []) (1 ∷ 0 ∷ 8 ∷ 0 ∷ 2 ∷ 0 ∷ 0 ∷ 0 ∷ 40 ∷ 0 ∷ 1 ∷ 1 ∷ 0 ∷ 8 ∷ 1 ∷ 2 ∷ 0 ∷ 0 ∷ 0 ∷ 40 ∷ 0 ∷ 1 ∷ [])
    ∷ replied (clock (quiet (tick 50)))
    ∷ listed (2 ∷ 66 ∷ []) ∷ wrote (99 ∷ 131 ∷ 107 ∷ 111 ∷ 115 ∷ 119 ∷ 123 ∷ 133 ∷ 137 ∷ 141 ∷ 145 ∷ 149 ∷ 153 ∷ 157 ∷ []) ∷ listed (2 ∷ []) ∷ []

-- A run that is cut short for want of lines or bytes goes on where it stopped.
abbrev cut : List Call
cut =
    at_tick 0 (filing 1 (from_100 (along_x 0 (neg_ℤ (pos 8)) ∷ along_x 10 (pos 8) ∷ []) 20))
    ∷ at_tick 0 (entering 0 (cube 10)) ∷ at_tick 0 (entering 1 (cube 10)) ∷ setting (tick 0) 60 2
    ∷ running (tick 0) (tick 30) 379 100 ∷ running (tick 0) (tick 30) 380 10 ∷ running (tick 0) (tick 30) 380 11
    ∷ running (tick 0) (tick 30) 383 100 ∷ running (tick 0) (tick 30) 1000 11 ∷ running (tick 0) (tick 30) 1000 100 ∷ running (tick 0) (tick 30) 0 0 ∷ []

abbrev pub CutTold : Type 0
CutTold = answers (empty_book 8) cut ≡
    wrote [] ∷ wrote (5 ∷ []) ∷ wrote (9 ∷ 13 ∷ 17 ∷ 21 ∷ []) ∷ replied (clock (due (tick 0) (tick 30)))
    ∷ replied (ran 15 0) ∷ replied (ran 15 0)
    ∷ answer (ran 15 1) (10 ∷ 25 ∷ []) (1 ∷ 0 ∷ 8 ∷ 0 ∷ 1 ∷ 0 ∷ 0 ∷ 0 ∷ 10 ∷ 0 ∷ 1 ∷ [])
    ∷ answer (ran 15 1) (22 ∷ 27 ∷ 29 ∷ 15 ∷ 33 ∷ 19 ∷ 37 ∷ 41 ∷ []) []
    ∷ answer (ran 15 1) (30 ∷ 45 ∷ []) (2 ∷ 0 ∷ 8 ∷ 0 ∷ 1 ∷ 0 ∷ 0 ∷ 0 ∷ 10 ∷ 0 ∷ 1 ∷ [])
    ∷ answer (ran 0 1) (42 ∷ 47 ∷ 49 ∷ 35 ∷ 53 ∷ 39 ∷ 57 ∷ 61 ∷ []) []
    ∷ replied (ran 0 0) ∷ []

-- Refusals: of the rows that fit, the first.
abbrev bad_plan : Plan
bad_plan = record { start = λ _. pos 0; count = 0; legs = []; end = 0 }

abbrev refusals : List Call
refusals =
    changing (tick 1) (entering 64 (cube 0)) 0 ∷ changing (tick 0) (entering 64 (cube 0)) 0 ∷ changing (tick 0) (entering 0 (cube 0)) 0 ∷ changing (tick 0) (entering 0 (cube 1)) 0
    ∷ changing (tick 0) (entering 0 (cube 1)) 190 ∷ changing (tick 0) (entering 0 (cube 0)) 0
    ∷ changing (tick 0) (leaving 64) 0 ∷ changing (tick 0) (leaving 1) 0 ∷ changing (tick 0) (leaving 0) 189
    ∷ changing (tick 0) (filing 64 bad_plan) 0 ∷ changing (tick 0) (filing 0 bad_plan) 0 ∷ changing (tick 0) (filing 0 (from_100 (along_x 0 (pos 0) ∷ along_x 1 (pos 0) ∷ []) 2)) 0 ∷ changing (tick 0) (filing 0 (from_100 (along_x 0 (pos 0) ∷ []) 2)) 12223
    ∷ changing (tick 0) (riding 64 1 (Some 0)) 0 ∷ changing (tick 0) (riding 0 1 (Some 64)) 0 ∷ changing (tick 0) (riding 0 1 (Some 0)) 0 ∷ changing (tick 0) (riding 0 1 None) 0 ∷ changing (tick 0) (riding 0 0 None) 0
    ∷ setting (tick 0) 2 32000 ∷ setting (tick 0) 1 0 ∷ setting (tick 0) 50001 1
    ∷ touching (tick 0) 0 64 ∷ touching (tick 0) 1 1 ∷ touching (tick 0) 0 1 ∷ touching (tick 1) 0 64
    ∷ stepping (tick 0) (tick 0) 0 ∷ setting (tick 0) 50000 16000 ∷ stepping (tick 0) (record { num = 25; den = 8 }) 0
    ∷ setting (tick 0) 1 1 ∷ resting (tick 0) (record { num = 25; den = 8 }) ∷ setting (record { num = 25; den = 8 }) 3 1 ∷ asking 12352 ∷ asking 323 ∷ []

abbrev pub RefusalsTold : Type 0
RefusalsTold = answers one_level refusals ≡
    refuses 1 ∷ refuses 2 ∷ refuses 6 ∷ refuses 15
    ∷ wrote (5 ∷ []) ∷ refuses 4
    ∷ refuses 2 ∷ refuses 5 ∷ refuses 15
    ∷ refuses 2 ∷ refuses 8 ∷ refuses 9 ∷ refuses 15
    ∷ refuses 2 ∷ refuses 2 ∷ refuses 3 ∷ refuses 10 ∷ refuses 15
    ∷ refuses 11 ∷ refuses 11 ∷ refuses 11
    ∷ refuses 2 ∷ refuses 3 ∷ refuses 5 ∷ refuses 1
    ∷ refuses 1 ∷ replied (clock (due (tick 0) (record { num = 25; den = 8 }))) ∷ refuses 13
    ∷ refuses 1 ∷ replied (clock (quiet (record { num = 25; den = 8 }))) ∷ refuses 12 ∷ refuses 7 ∷ replied (certificate None) ∷ []
