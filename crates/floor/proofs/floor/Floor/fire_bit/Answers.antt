use Rattle.times.specs.Of.{moment_of}
use Rattle.floor.proofs.Granting.{bit_fired}
use Rattle.floor.proofs.floor.Floor.fire_bit.Goals as goal

pub returns : goal.returns
returns g c = record { wrote = bit_fired _ _ _ _ c.args.slot.number (moment_of c.args.k) _ _ _ _ _ _ _ _ _ c.bit-bit.ensures c.set_bit.ensures c.axis.ensures c.lower.ensures c.higher.ensures c.grant_bit.ensures.wrote; same = c.grant_bit.ensures.same }
