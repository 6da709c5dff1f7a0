use Rattle.times.specs.Of.{time_of}
use Rattle.riding.specs.Seats.{seats_of}
use Rattle.riding.proofs.Asked.{leg_alone, leg_rides, leg_small}
use Rattle.riding.proofs.riding.RidingFlightBook.leg.Goals as goal

pub returns-in_default : goal.returns-in_default
returns-in_default g c =
    leg_alone (seats_of c.args.self.now.seats) (g.B.FlightBook.meaning c.args.self.now.below) c.args.craft (time_of c.args.t) c.in_ok-own.own c.in_ok-own.ensures c.in_default.ensures

pub sum-requires : goal.sum-requires
sum-requires g c =
    let s = seats_of c.args.self.now.seats in
    let b = g.B.FlightBook.meaning c.args.self.now.below in
    let w = g.met.B.FlightBook.lawful c.args.self.now.below in (
      leg_small s b c.args.craft c.in-Some.carrier.number c.args.craft (time_of c.args.t) c.in_ok-own.own w c.in-Some.ensures c.in_ok-own.ensures,
      leg_small s b c.args.craft c.in-Some.carrier.number c.in-Some.carrier.number (time_of c.args.t) c.in_ok-carrier.carrier w c.in-Some.ensures c.in_ok-carrier.ensures,
    )

pub returns : goal.returns
returns g c =
    leg_rides (seats_of c.args.self.now.seats) (g.B.FlightBook.meaning c.args.self.now.below) c.args.craft (time_of c.args.t) c.in_ok-own.own c.in_ok-own.ensures
    c.in-Some.carrier.number c.in_ok-carrier.carrier c.sum.result c.in-Some.ensures c.in_ok-carrier.ensures c.sum.ensures
