-- Boxes on lines that a scale of at most 8 allows.
use Rattle.std.proofs.Common.{◌≡◌, ℕ, ◌*◌, ◌≤◌, true, ◌&&◌, leb, ℤ, pos, ◌+ℤ◌, ◌-ℤ◌, nat_abs, ◌<ℤ◌, refl, arith, leb-true}
use borrow.Author.Differences.{ints}
use Rattle.std.proofs.lemmas.Bool.{and_parts}
use Rattle.rules.specs.Paths.{Axis, X, Y, Z, Line, Path, line_at, Kept}
use Rattle.rules.specs.Boxes.{Box, box_right, ends}
use Rattle.geometry_laws.specs.Certificates.{Slow}
use Rattle.geometry_laws.specs.Quick.{Solid}

-- slopes of at most 8,000 each
pub ends_slow : (b d : Box) (a : Axis) (l k : Line) → nat_abs l.slope ≤ 8000 → nat_abs k.slope ≤ 8000 → Slow (ends b a l) (ends d a k)
ends_slow b d a l k h g = record { one = apart l.slope k.slope h g; two = apart k.slope l.slope g h }
  where
    apart : (x y : ℤ) → nat_abs x ≤ 8000 → nat_abs y ≤ 8000 → nat_abs (x -ℤ y) ≤ 16000
    apart x y h g = omega (arith, ints)

-- so it is on the legs of two paths that keep the rules
pub kept_slow : (s : ℕ) → s ≤ 8 → (p q : Path) → Kept s p → Kept s q → (b d : Box) (a : Axis) (i j : ℕ) → Slow (ends b a (line_at p a i)) (ends d a (line_at q a j))
kept_slow s h p q kp kq b d a i j =
    let e : 1000 * s ≤ 8000 = omega arith in
    ends_slow b d a (line_at p a i) (line_at q a j) (omega (arith, kp.slopes a i)) (omega (arith, kq.slopes a j))

-- the half sizes of a box that is right
pub half_some : (b : Box) → box_right b ≡ true → (a : Axis) → (1 ≤ b.half a) × (b.half a ≤ 1000)
half_some b e a = go a
  where
    two : (x : ℕ) → (leb 1 x && leb x 1000) ≡ true → (1 ≤ x) × (x ≤ 1000)
    two x f = let r = and_parts (leb 1 x) (leb x 1000) f in (leb-true 1 x r.0, leb-true x 1000 r.1)

    parts : ((leb 1 (b.half X) && leb (b.half X) 1000) ≡ true) × ((leb 1 (b.half Y) && leb (b.half Y) 1000) ≡ true) × ((leb 1 (b.half Z) && leb (b.half Z) 1000) ≡ true)
    parts =
        let r = and_parts ((leb 1 (b.half X) && leb (b.half X) 1000) && (leb 1 (b.half Y) && leb (b.half Y) 1000)) (leb 1 (b.half Z) && leb (b.half Z) 1000) e in
        let q = and_parts (leb 1 (b.half X) && leb (b.half X) 1000) (leb 1 (b.half Y) && leb (b.half Y) 1000) r.0 in
        (q.0, q.1, r.1)

    go : (a : Axis) → (1 ≤ b.half a) × (b.half a ≤ 1000)
    go X = two (b.half X) parts.0
    go Y = two (b.half Y) parts.1
    go Z = two (b.half Z) parts.2

pub ends_solid : (b : Box) (a : Axis) (l : Line) → 1 ≤ b.half a → Solid (ends b a l)
ends_solid b a l h = record { level = refl; tall = tall l.base (b.half a) h }
  where
    tall : (z : ℤ) (x : ℕ) → 1 ≤ x → (z -ℤ pos x) <ℤ (z +ℤ pos x)
    tall z x h = omega (arith, ints)
