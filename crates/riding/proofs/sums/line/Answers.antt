use Rattle.std.proofs.Common.{sym, subst, arith}
use Rattle.plans.proofs.Sizes.{sum_within}
use Rattle.plans.proofs.Casts.{small_fits}
use Rattle.riding.specs.Legs.{Small}
use Rattle.riding.proofs.sums.line.Goals as goal

pub add-requires : goal.add-requires
add-requires c =
    let l = subst Small (sym c.on.ensures) (c.requires.0 c.args.axis) in
    let m = subst Small (sym c.on-2.ensures) (c.requires.1 c.args.axis) in
    record {
      base = small_fits _ 808000000 (sum_within c.on.result.0 c.on-2.result.0 404000000 404000000 l.base m.base) (omega arith);
      slope = small_fits _ 8000 (sum_within c.on.result.1 c.on-2.result.1 4000 4000 l.slope m.slope) (omega arith);
    }
