-- When certificates fail that stand at a quiet clock, by the paths alone.
use Rattle.std.specs.Prelude.{◌≡◌, ℕ, true}
use Rattle.rules.specs.Fractions.{Fraction, Proper, NotAfter, tick}
use Rattle.rules.specs.Stamps.{at}
use Rattle.rules.specs.Paths.{Axis, leg, first_after}
use Rattle.rules.specs.Boxes.{Ends, ends, overlap, Fails}
use Rattle.model.specs.Moves.{at_break}
use Rattle.events.specs.Machine.{Sky, flies, box_of, Pair, In, Core, Rested}
use Rattle.events.specs.Reports.{Lawful}

-- the ends of a craft's box on the leg that its path is on at t
abbrev pub ends_at : Sky → Fraction → Axis → ℕ → Ends
ends_at y t a c = ends (box_of y c) a (leg (y.path c) t a)

pub record AtRest (y : Sky) (t : Fraction) (s : Core) : Type 0 where
  -- a pair's certificate: the first moment from t on at which the two do not overlap as they do at t
  pub pairs : (i : Pair) → In y i → (a : Axis) → let p = ends_at y t a i.lower in let q = ends_at y t a i.higher in Fails (overlap p q (at t)) p q (at t) (s.fails i a)
  -- a leg's certificate: the first break after t
  pub legs : (c : ℕ) → flies y c ≡ true → s.turn c ≡ at_break (first_after t (y.path c).breaks)

abbrev pub CertificatesRest : Type 0
CertificatesRest = (w : ℕ) (y : Sky) → Lawful w y → (t : Fraction) → Proper t → NotAfter t (tick 50000) → (s : Core) → Rested y t s → AtRest y t s
