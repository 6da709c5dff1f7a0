use Rattle.std.proofs.Common.{sym, ap, ◌∙◌}
use Rattle.rules.specs.Books.{layered}
use Rattle.plans.specs.Of.{plan_of}
use Rattle.riding.specs.Seats.{seats_of}
use Rattle.riding.specs.Layers.{file_refusal, file_layered}
use Rattle.riding.proofs.riding.RidingFlightBook.file.Goals as goal

pub returns : goal.returns
returns g c =
    let s = seats_of c.args.self.now.seats in
    let b = g.B.FlightBook.meaning c.args.self.now.below in
    let p = plan_of c.args.plan in
    record {
      refusal = c.file.ensures.refusal ∙ sym (file_refusal s b c.args.craft p);
      after = ap (layered s) c.file.ensures.after ∙ file_layered s b c.args.craft p;
      same = λ n. λ i. record { below = c.file.ensures.same n i; seats = c.args.self.now.seats };
    }
