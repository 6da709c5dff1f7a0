-- Tables as functions.
use Rattle.std.proofs.Common.{◌≡◌, ℕ, zero, suc, Bool, false, get_or, replicate, Some, None, Option, unwrap_or, pos, refl, ap, ap₂, ◌∙◌, arith}
use mathlib.Core.Path.{fun_ext}
use Rattle.rules.specs.Basics.{the}
use Rattle.rules.specs.Paths.{Axis, Line, X, Y, Z, xyz}
use Rattle.rules.specs.Boxes.{Box}
use Rattle.geometry.specs.Of.{box_of, sizes}
use Rattle.geometry.specs.declared.sizes.HalfSizes.{HalfSizes}
use Rattle.model.specs.Halls.{Craft}
use Rattle.model.specs.Moves.{nobody}
use Rattle.tables.specs.declared.craft.CraftRecord.{CraftRecord}
use Rattle.tables.specs.Crafts.{with_legs, record_of, record_in}
use Rattle.tables.specs.Tables.{Granted, Table, empty}

pub xyz_same : {A : Type 0} (v : A) → xyz v v v ≡ (λ (_ : Axis). v)
xyz_same v = fun_ext go
  where
    go : (a : Axis) → xyz v v v a ≡ v
    go X = refl
    go Y = refl
    go Z = refl

-- the least box, as the model has it
pub least_box : (b : Box) → b ≡ sizes 1 1 1 → b ≡ nobody.box
least_box b e = e ∙ ap (λ (h : Axis → ℕ). record { half = h }) (xyz_same {A = ℕ} 1)

pub at_rest : (b : Box) → b ≡ nobody.box → with_legs b (xyz (record { base = pos 0; slope = pos 0 }) (record { base = pos 0; slope = pos 0 }) (record { base = pos 0; slope = pos 0 })) ≡ nobody
at_rest b e = ap₂ with_legs e (xyz_same (record { base = pos 0; slope = pos 0 }))

-- half sizes with a box's reaches are that box: for bodies that make them anew, reach by reach
pub same_box : (k b : HalfSizes) (x y z : ℕ) → box_of k ≡ sizes x y z → x ≡ b.each.x.half → y ≡ b.each.y.half → z ≡ b.each.z.half → box_of k ≡ box_of b
same_box k b x y z e f g h = rw (f, g, h) at e

pub same_record : (a b : Box) (l : Axis → Line) → a ≡ b → with_legs a l ≡ with_legs b l
same_record a b l e = ap (λ (c : Box). with_legs c l) e

getD_same : {A : Type 0} (n : ℕ) (d : A) (k : ℕ) → get_or (replicate n d) k d ≡ d
getD_same zero d k = refl
getD_same (suc n) d zero = refl
getD_same (suc n) d (suc k) = getD_same n d k

pub granted_none : (n last : ℕ) → Granted (replicate n 0) last
granted_none n last k = omega (arith, getD_same {A = ℕ} n 0 k)

-- a table of one value
pub table_none : {A B : Type 0} (f : A → B) (n : ℕ) (d : A) → ◌≡◌ {A = ℕ → B} (λ k. f (get_or (replicate n d) k d)) (λ k. f d)
table_none f n d = fun_ext (λ k. ap f (getD_same n d k))

pub empty_is : (craft : ℕ → Option Craft) (bits : ℕ → Bool) (numbers : ℕ → ℕ) → craft ≡ (λ _. None) → bits ≡ (λ _. false) → numbers ≡ (λ _. 0) →
    ◌≡◌ {A = Table} (record { craft = craft; bit = bits; number = numbers; last = 0 }) empty
empty_is craft bits numbers e f g = rw (e, f, g) refl

-- a record, or what stands for none
pub record_or : (o : Option CraftRecord) (r : CraftRecord) → record_of r ≡ nobody → record_of (unwrap_or o r) ≡ the nobody (record_in o)
record_or None r e = e
record_or (Some k) r e = refl
