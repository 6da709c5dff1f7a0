-- The certificates of every history, from a hall that rests.
use Rattle.std.specs.Prelude.{◌≡◌, List}
use Rattle.rules.specs.Fractions.{Fraction, Proper, NotAfter, tick}
use Rattle.rules.specs.Books.{Book, path, Lawful}
use Rattle.rules.specs.Slots.{slot, leg_slot}
use Rattle.model.specs.Halls.{Hall, quiet, opened}
use Rattle.model.specs.Moves.{craft_of}
use Rattle.model.specs.Calls.{Call}
use Rattle.model.specs.Histories.{after}
use Rattle.model.specs.Statement.{Certificates}
use Rattle.accounts.specs.Laws.{boxes}
use Rattle.events.specs.Machine.{Sky, Core, Rested}

-- a hall as the machine has it
abbrev pub sky_of : Hall → Sky
sky_of m = record { box = λ c. boxes m c; path = λ c. path m.book c }

abbrev pub core_of : Hall → Core
core_of m = record {
  leg = λ c a. (craft_of c m).leg a;
  turn = λ c. m.queue (leg_slot c);
  bit = λ i a. m.bit (slot a i.lower i.higher);
  fails = λ i a. m.queue (slot a i.lower i.higher);
}

-- with a quiet clock at t the machine is at rest
pub record Rests (b : Book) (calls : List Call) : Type 0 where
  pub time : (t : Fraction) → (after calls (opened b)).clock ≡ quiet t → Proper t × NotAfter t (tick 50000)
  pub rested : (t : Fraction) → (after calls (opened b)).clock ≡ quiet t → Rested (sky_of (after calls (opened b)).hall) t (core_of (after calls (opened b)).hall)

abbrev pub CertificatesFromRest : Type 0
CertificatesFromRest = (b : Book) → Lawful b → (calls : List Call) → Rests b calls → Certificates b calls
