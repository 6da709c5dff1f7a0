-- The table of refusals: for each call its rows, each a number and whether it fits; the first that fits is returned.
use Rattle.std.specs.Prelude.{ℕ, ◌+◌, ◌*◌, Bool, false, not, ◌&&◌, ◌||◌, List, [], ◌∷◌, ◌++◌, map, length, is_some, Option, ◌==◌, nat_lt}
use Rattle.rules.specs.Basics.{those, joined, first_fit}
use Rattle.rules.specs.Fractions.{is_same, is_before, no_time}
use Rattle.rules.specs.Books.{Book, out_of_range, book_rows}
use Rattle.rules.specs.Boxes.{box_right}
use Rattle.rules.specs.Slots.{Queue, first}
use Rattle.model.specs.Halls.{Clock, quiet, due, Hall, State, all_craft, in_hall, entered, together, left, next_due}
use Rattle.model.specs.Calls.{Change, entering, leaving, booking, Call, changing, setting, stepping, running, resting, touching, listing, asking}

-- clocks are compared as plain numbers
abbrev pub same_clock : Clock → Clock → Bool
same_clock (quiet s) (quiet t) = is_same s t
same_clock (quiet s) (due t g) = false
same_clock (due s f) (quiet t) = false
same_clock (due s f) (due t g) = is_same s t && is_same f g

abbrev pub not_mine : State → Clock → Bool
not_mine z k = not (same_clock k z.clock)

-- the touching pairs as list entries, ascending
abbrev pub pairs_of : Hall → ℕ → List ℕ
pairs_of m c = map (λ d. c * 64 + d) (those (λ d. nat_lt c d && in_hall m d && together c d m) all_craft)

abbrev pub pairs : Hall → List ℕ
pairs m = joined (map (pairs_of m) (entered m))

-- the rows of a change, with a slip of that length
abbrev pub change_rows : Change → (slip : ℕ) → Hall → List (ℕ × Bool)
change_rows (entering c b) slip m =
    (2, out_of_range c) ∷
    (4, in_hall m c) ∷
    (6, not (box_right b)) ∷
    (15, nat_lt slip 190) ∷
    (16, nat_lt (left m) 190) ∷ []
change_rows (leaving c) slip m =
    (2, out_of_range c) ∷
    (5, not (in_hall m c)) ∷
    (15, nat_lt slip 190) ∷ []
-- a book's own rows stand between: 2, 8, 9 for a filing, and 2, 3, 10 for a ride
change_rows (booking x) slip m = book_rows x m.book ++ (
    (15, nat_lt slip 12224) ∷
    (16, nat_lt (left m) 6112) ∷ [])

-- the rows of a call
abbrev pub rows : Call → State → List (ℕ × Bool)
rows (changing t x slip) z =
    (1, not_mine z (quiet t)) ∷ change_rows x slip z.hall
rows (setting t n d) z =
    (1, not_mine z (quiet t)) ∷
    (11, no_time n d) ∷
    (12, is_before (record { num = n; den = d }) t) ∷ []
rows (stepping t g slip) z =
    (1, not_mine z (due t g)) ∷
    (13, not (is_some (next_due g z.hall))) ∷
    (15, nat_lt slip 380) ∷
    (16, nat_lt (left z.hall) 190) ∷ []
rows (running t g slip page) z =
    (1, not_mine z (due t g)) ∷ []
rows (resting t g) z =
    (1, not_mine z (due t g)) ∷
    (14, is_some (next_due g z.hall)) ∷ []
rows (touching t c d) z =
    (1, not_mine z (quiet t)) ∷
    (2, out_of_range c || out_of_range d) ∷
    (3, (c == d)) ∷
    (5, not (in_hall z.hall c && in_hall z.hall d)) ∷ []
rows (listing t room) z =
    (1, not_mine z (quiet t)) ∷
    (15, nat_lt room (length (pairs z.hall))) ∷ []
rows (asking s) z =
    (7, nat_lt 12351 s) ∷ []

abbrev pub refusal : Call → State → Option ℕ
refusal call z = first_fit (rows call z)

-- opening, over a book and a queue
abbrev pub opening_refusal : Book → Queue → Option ℕ
opening_refusal b q = first_fit ((17, nat_lt 8 b.scale) ∷ (18, is_some (first q)) ∷ [])
