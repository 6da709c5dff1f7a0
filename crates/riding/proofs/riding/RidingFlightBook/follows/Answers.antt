use Rattle.std.proofs.Common.{Bool, ◌||◌, sym, ap, ◌∙◌}
use Rattle.riding.specs.Seats.{seats_of}
use Rattle.riding.proofs.Asked.{follow_alone, follow_rides}
use Rattle.riding.proofs.riding.RidingFlightBook.follows.Goals as goal

pub returns-in_default : goal.returns-in_default
returns-in_default g c =
    follow_alone (seats_of c.args.self.now.seats) (g.B.FlightBook.meaning c.args.self.now.below) c.args.craft c.args.leader c.in_ok-own.own c.in_ok-own.ensures c.in_default.ensures

pub returns-then-own : goal.returns-then-own
returns-then-own g c =
    follow_rides (seats_of c.args.self.now.seats) (g.B.FlightBook.meaning c.args.self.now.below) c.args.craft c.args.leader c.in_ok-own.own c.in_ok-own.ensures
    c.in-Some.carrier.number c.in_ok-carrier.carrier c.in_ok-own.own c.in-Some.ensures c.in_ok-carrier.ensures
    (c.if-own.true ∙ sym (ap (λ (x : Bool). x || c.in_ok-carrier.carrier) c.if-own.true))

pub returns-else-own : goal.returns-else-own
returns-else-own g c =
    follow_rides (seats_of c.args.self.now.seats) (g.B.FlightBook.meaning c.args.self.now.below) c.args.craft c.args.leader c.in_ok-own.own c.in_ok-own.ensures
    c.in-Some.carrier.number c.in_ok-carrier.carrier c.in_ok-carrier.carrier c.in-Some.ensures c.in_ok-carrier.ensures
    (sym (ap (λ (x : Bool). x || c.in_ok-carrier.carrier) c.if-own.false))
