-- The list of touching pairs, craft by craft.
use Rattle.std.specs.Prelude.{◌≡◌, ℕ, ◌+◌, ◌*◌, ◌<◌, Bool, ◌&&◌, List, ◌++◌, map, length, drop, nat_lt}
use Rattle.rules.specs.Basics.{those, joined}
use Rattle.model.specs.Halls.{Hall, in_hall, together, all_craft}
use Rattle.model.specs.Refusals.{pairs}

-- c and d are listed: both are entered, c is the lower number, and by their bits they overlap
abbrev pub listed : Hall → ℕ → ℕ → Bool
listed m c d = in_hall m c && (nat_lt c d && in_hall m d && together c d m)

-- a pair as a list entry
abbrev pub entry : ℕ → ℕ → ℕ
entry c d = c * 64 + d

-- the entries of c with some craft, and with all
abbrev pub row_with : Hall → ℕ → List ℕ → List ℕ
row_with m c ds = map (entry c) (those (listed m c) ds)

abbrev pub row : Hall → ℕ → List ℕ
row m c = row_with m c all_craft

-- the rows of some craft
abbrev pub rows_of : Hall → List ℕ → List ℕ
rows_of m cs = joined (map (row m) cs)

-- all pairs stand at the start of the list, and n is how many
pub record Listed (m : Hall) (s s' : List ℕ) (n : ℕ) : Type 0 where
  pub count : n ≡ length (pairs m)
  pub list : s' ≡ pairs m ++ drop n s

-- the list is too short, and as it was
pub record TooShort (m : Hall) (s s' : List ℕ) : Type 0 where
  pub short : length s < length (pairs m)
  pub list : s' ≡ s
