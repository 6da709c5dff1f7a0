use Rattle.std.proofs.Common.{◌≡◌, ℤ, rules}
use Rattle.rules.specs.Paths.{Line}
use Rattle.geometry.proofs.Bound.{gap_is}
use Rattle.geometry.proofs.gap.Gap.between.Goals as goal

-- lines with one base and one slope
line_one : (a b v w : ℤ) → a ≡ b → v ≡ w → ◌≡◌ {A = Line} (record { base = a; slope = v }) (record { base = b; slope = w })
line_one a b v w e f = λ i. record { base = e i; slope = f i }

pub returns : goal.returns
returns c =
    line_one _ _ _ _
    (gap_is c.args.p.a c.args.q.a c.apart.result c.from.result c.from-2.result c.args.p.down.half c.args.q.up.half
    (search rules) (search rules) c.args.p.down.small c.args.q.up.small (search rules) c.from.ensures c.from-2.ensures)
    (search rules)
