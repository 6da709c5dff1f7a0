use Rattle.std.proofs.Common.{◌∙◌}
use Rattle.times.specs.Of.{moment_of}
use Rattle.floor.proofs.Firing.{fire_fits_leg, fire_wrote_bit, fire_wrote_leg}
use Rattle.floor.proofs.floor.Floor.fire.Goals as goal

pub returns-in-Bit : goal.returns-in-Bit
returns-in-Bit g c = record { wrote = fire_wrote_bit c.args.due.slot.number c.args.slip.now.used (moment_of c.args.due.moment) _ _ c.requires _ _ _ c.take_away.ensures.wrote _ c.in-Bit.ensures c.in-Bit.slot.inside _ _ _ c.fire_bit.ensures.wrote; same = c.fire_bit.ensures.same ∙ c.take_away.ensures.same }

pub fire_leg-requires : goal.fire_leg-requires
fire_leg-requires g c = fire_fits_leg c.args.due.slot.number c.args.slip.now.used (moment_of c.args.due.moment) _ _ c.requires _ _ _ c.take_away.ensures.wrote _ c.in-Leg.ensures

pub returns-in-Leg : goal.returns-in-Leg
returns-in-Leg g c = record { wrote = fire_wrote_leg c.args.due.slot.number c.args.slip.now.used (moment_of c.args.due.moment) _ _ c.requires _ _ _ c.take_away.ensures.wrote _ c.in-Leg.ensures _ _ _ c.fire_leg.ensures.wrote; same = c.fire_leg.ensures.same ∙ c.take_away.ensures.same }
