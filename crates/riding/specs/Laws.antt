-- What a layer does to a book, at any depth.
use Rattle.std.specs.Prelude.{◌≡◌, ℕ, suc, ◌*◌, cond, ◌||◌, Option, nat_le}
use Rattle.rules.specs.Books.{Book, Lawful, layered, path, carried, follows, in_seat}
use Rattle.riding.specs.Layer.{added}

-- A layer over a book: the path has that of the seat that it adds added, and a craft follows also whom that seat follows.
pub record Layer (s : ℕ → Option ℕ) (b : Book) : Type 0 where
  pub paths : (c : ℕ) → path (layered s b) c ≡ carried (path b) c (added s b c)
  pub followers : (c d : ℕ) → follows (layered s b) c d ≡ (follows b c d || in_seat (follows b c) (added s b d))
  pub levels : (layered s b).levels ≡ cond (nat_le b.scale 4) (suc b.levels) b.levels
  pub limit : (layered s b).limit ≡ b.limit
  pub scale : (layered s b).scale ≡ cond (nat_le b.scale 4) (2 * b.scale) 9

abbrev pub LayersAdd : Type 0
LayersAdd = (s : ℕ → Option ℕ) (b : Book) → Layer s b

-- and it is lawful over a lawful one
abbrev pub LayersLawful : Type 0
LayersLawful = (s : ℕ → Option ℕ) (b : Book) → Lawful b → Lawful (layered s b)
