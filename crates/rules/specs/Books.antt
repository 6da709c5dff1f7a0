-- Flight books: own paths, seats by level, the paths that come of them, and who follows whom.
use Rattle.std.specs.Prelude.{ℕ, zero, suc, ◌*◌, ◌^◌, ◌≤◌, Bool, false, cond, not, ◌||◌, List, [], ◌∷◌, Some, None, Option, ◌==◌, nat_le, nat_lt}
use Rattle.rules.specs.Basics.{put, first_fit}
use Rattle.rules.specs.Fractions.{Fraction}
use Rattle.rules.specs.Paths.{Path, sum, standing, first_after, Kept}
use Rattle.rules.specs.Plans.{Plan, path_of, plan_right}

-- what a flight book means
pub record Book : Type 0 where
  -- the own path of each craft
  pub own : ℕ → Path
  -- how many levels of seats there are
  pub levels : ℕ
  -- by level and craft: the carrier that the craft rides on there, or none
  pub seat : ℕ → ℕ → Option ℕ
  -- the leg limit
  pub limit : ℕ
  pub scale : ℕ

-- the path of c, with that of its carrier added where it has a seat
abbrev pub carried : (ℕ → Path) → ℕ → Option ℕ → Path
carried path c None = path c
carried path c (Some k) = sum (path c) (path k)

-- the path of a craft at a level; the seats of a level lead to the next
abbrev pub path_at : Book → ℕ → ℕ → Path
path_at b zero c = b.own c
path_at b (suc j) c = carried (path_at b j) c (b.seat j c)

-- the path of a craft: that at the top level
abbrev pub path : Book → ℕ → Path
path b = path_at b b.levels

-- the first break of a craft's path after a time
abbrev pub break_after : Book → ℕ → Fraction → Option ℕ
break_after b c t = first_after t (path b c).breaks

-- whether d follows c at a level: itself at first, then also whatever its seat follows
abbrev pub in_seat : (ℕ → Bool) → Option ℕ → Bool
in_seat p None = false
in_seat p (Some k) = p k

abbrev pub follows_at : Book → ℕ → ℕ → ℕ → Bool
follows_at b zero c d = d == c
follows_at b (suc j) c d = follows_at b j c d || in_seat (follows_at b j c) (b.seat j d)

-- whether d follows c
abbrev pub follows : Book → (c d : ℕ) → Bool
follows b = follows_at b b.levels

-- filing sets one craft's own path
abbrev pub filed : ℕ → Path → Book → Book
filed c p b = record { own = put b.own c p; levels = b.levels; seat = b.seat; limit = b.limit; scale = b.scale }

-- riding sets or empties one seat
abbrev pub ridden : (level craft : ℕ) → Option ℕ → Book → Book
ridden j c k b = record { own = b.own; levels = b.levels; seat = put b.seat j (put (b.seat j) c k); limit = b.limit; scale = b.scale }

-- THE CHANGES OF A BOOK, and what each is refused for

pub data BookChange : Type 0 where
  file : (craft : ℕ) → Plan → BookChange
  ride : (craft level : ℕ) → (carrier : Option ℕ) → BookChange

abbrev pub out_of_range : ℕ → Bool
out_of_range c = nat_le 64 c

abbrev pub carrier_out : Option ℕ → Bool
carrier_out None = false
carrier_out (Some k) = out_of_range k

abbrev pub carrier_is : Option ℕ → ℕ → Bool
carrier_is None c = false
carrier_is (Some k) c = k == c

-- the rows of the table of refusals that speak of a change: each a number, and whether it fits
abbrev pub book_rows : BookChange → Book → List (ℕ × Bool)
book_rows (file c p) b = (2, out_of_range c) ∷ (8, not (plan_right p)) ∷ (9, nat_lt b.limit p.count) ∷ []
book_rows (ride c j k) b = (2, out_of_range c || carrier_out k) ∷ (3, carrier_is k c) ∷ (10, nat_le b.levels j) ∷ []

abbrev pub book_refusal : BookChange → Book → Option ℕ
book_refusal x b = first_fit (book_rows x b)

abbrev pub carried_out : BookChange → Book → Book
carried_out (file c p) = filed c (path_of p)
carried_out (ride c j k) = ridden j c k

-- a change that is refused alters nothing
abbrev pub changed_unless : Option ℕ → BookChange → Book → Book
changed_unless None x b = carried_out x b
changed_unless (Some n) x b = b

abbrev pub changed : BookChange → Book → Book
changed x b = changed_unless (book_refusal x b) x b

-- after a list of changes, the first one first
abbrev pub changed_by : List BookChange → Book → Book
changed_by [] b = b
changed_by (x ∷ xs) b = changed_by xs (changed x b)

-- A lawful book: as it is, and after every list of filings and rides, every craft's path keeps the rules at its scale.
pub record Lawful (b : Book) : Type 0 where
  pub paths : (xs : List BookChange) (c : ℕ) → Kept b.scale (path (changed_by xs b) c)
  pub low : 2 ^ b.levels ≤ b.scale
  pub high : b.scale ≤ 9

-- THE BOOKS THAT THERE ARE

-- a book with no levels and scale 1 in which every craft stands: single-leg with limit 1, itinerary with limit 8
abbrev pub empty_book : (limit : ℕ) → Book
empty_book n = record { own = λ _. standing; levels = 0; seat = λ _ _. None; limit = n; scale = 1 }

-- the riding layer over a book: a level on top with these seats; over a scale above 4 nothing but scale 9
abbrev pub layered : (seats : ℕ → Option ℕ) → Book → Book
layered seats b = cond (nat_le b.scale 4)
    (record { own = b.own; levels = suc b.levels; seat = put b.seat b.levels seats; limit = b.limit; scale = 2 * b.scale })
    (record { own = b.own; levels = b.levels; seat = b.seat; limit = b.limit; scale = 9 })
