use Rattle.std.proofs.Common.{◌≡◌, ℕ, false, ◌&&◌, eqb, leb, Option, sym, ap, ◌∙◌, ⊎_elim, eq-eqb}
use Rattle.std.proofs.lemmas.Bool.{and_parts, and_cases, eqb-true, both_ways}
use Rattle.rules.specs.Books.{Book, layered, changed, book_refusal}
use Rattle.books.specs.Told.{seating}
use Rattle.riding.specs.Seats.{seats_of}
use Rattle.riding.specs.Layers.{Lower, ride_refusal, ride_layered, seat_refused, seat_layered}
use Rattle.riding.proofs.riding.RidingFlightBook.ride.Goals as goal

lower : (b : Book) (j : ℕ) → (leb b.scale 4 && eqb j b.levels) ≡ false → Lower j b
lower b j e t q = ⊎_elim (λ (f : leb b.scale 4 ≡ false). both_ways (leb b.scale 4) f t) (λ (f : eqb j b.levels ≡ false). both_ways (eqb j b.levels) f (eq-eqb j b.levels q)) (and_cases (leb b.scale 4) (eqb j b.levels) e)

pub returns-then-is_top : goal.returns-then-is_top
returns-then-is_top g c =
    let s = seats_of c.args.self.now.seats in
    let b = g.B.FlightBook.meaning c.args.self.now.below in
    let q = and_parts (leb b.scale 4) (eqb c.args.level b.levels) (sym c.is_top.ensures ∙ c.if-is_top.true) in
    let l : c.args.level ≡ b.levels = eqb-true c.args.level b.levels q.1 in
    record {
      refusal = c.sit.ensures.refusal ∙ sym (ap (λ (j : ℕ). book_refusal (seating c.args.craft j c.args.carrier) (layered s b)) l ∙ seat_refused s b c.args.craft c.args.carrier q.0);
      after = ap (λ (f : ℕ → Option ℕ). layered f b) c.sit.ensures.after ∙ seat_layered s b c.args.craft c.args.carrier q.0 ∙ sym (ap (λ (j : ℕ). changed (seating c.args.craft j c.args.carrier) (layered s b)) l);
      same = λ n. λ i. record { below = c.args.self.now.below; seats = c.sit.ensures.same n i };
    }

pub returns : goal.returns
returns g c =
    let s = seats_of c.args.self.now.seats in
    let b = g.B.FlightBook.meaning c.args.self.now.below in
    let w = lower b c.args.level (sym c.is_top.ensures ∙ c.if-is_top.false) in
    record {
      refusal = c.ride.ensures.refusal ∙ sym (ride_refusal s b c.args.craft c.args.level c.args.carrier w);
      after = ap (layered s) c.ride.ensures.after ∙ ride_layered s b c.args.craft c.args.level c.args.carrier w;
      same = λ n. λ i. record { below = c.ride.ensures.same n i; seats = c.args.self.now.seats };
    }
