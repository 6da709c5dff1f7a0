-- A tournament of entries: each inner node holds the better of the two below it, so node 1 holds the best of all.
use Rattle.std.specs.Prelude.{◌≡◌, ℕ, ◌+◌, ◌*◌, ◌<◌, cond, List, Some, None, Option, ◌≢◌, slice_index_or}
use Rattle.queues.specs.declared.entry.Entry.{Entry}
use Rattle.queues.specs.Entries.{comes_before}

-- the better of two entries, of which either may be missing
unfoldable pub better : Option Entry → Option Entry → Option Entry
better None y = y
better (Some a) None = Some a
better (Some a) (Some b) = Some (cond (comes_before b a) b a)

abbrev pub node : List (Option Entry) → ℕ → Option Entry
node ns i = slice_index_or ns i None

-- the node i holds the better of the two below it
abbrev pub Won : List (Option Entry) → ℕ → Type 0
Won ns i = node ns i ≡ better (node ns (2 * i)) (node ns (2 * i + 1))

-- so does every inner node
abbrev pub Matched : List (Option Entry) → Type 0
Matched ns = (i : ℕ) → 0 < i → i < 128 → Won ns i

-- so does every inner node but j
abbrev pub MatchedBut : List (Option Entry) → ℕ → Type 0
MatchedBut ns j = (i : ℕ) → 0 < i → i < 128 → (i ≢ j) → Won ns i
