-- Own paths that leave room for every level of riding.
use Rattle.std.specs.Prelude.{◌≡◌, ℕ, suc, ◌*◌, ◌^◌, ◌≤◌, unsigned_abs}
use Rattle.rules.specs.Basics.{◌∈◌}
use Rattle.rules.specs.Paths.{Axis, Path, speed_at, line_at}
use Rattle.rules.specs.Books.{Book}

-- A path that keeps the rules within the scale s over 2 to the power l: added to itself l times over it stays within s.
pub record Right (l s : ℕ) (p : Path) : Type 0 where
  pub turns : (a : Axis) (i : ℕ) → ¬ (suc i ∈ p.breaks) → speed_at p a (suc i) ≡ speed_at p a i
  pub stays : (a : Axis) (i : ℕ) → 50000 ≤ i → p.place a i ≡ p.place a 50000
  pub ends : (k : ℕ) → k ∈ p.breaks → k ≤ 50000
  pub places : (a : Axis) (i : ℕ) → unsigned_abs (p.place a i) * 2 ^ l ≤ 51000000 * s
  pub slopes : (a : Axis) (i : ℕ) → unsigned_abs (line_at p a i).slope * 2 ^ l ≤ 1000 * s
  pub bases : (a : Axis) (i : ℕ) → unsigned_abs (line_at p a i).base * 2 ^ l ≤ 101000000 * s

-- a book with such own paths
pub record OwnRight (b : Book) : Type 0 where
  pub own : (c : ℕ) → Right b.levels b.scale (b.own c)
  pub low : 2 ^ b.levels ≤ b.scale
  pub high : b.scale ≤ 9
