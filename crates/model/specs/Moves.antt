-- How certificates move, and the lines that tell it. The argument k is the present moment.
use Rattle.std.specs.Prelude.{ℕ, suc, ◌+◌, ◌-◌, ◌*◌, ◌/◌, ◌%◌, min, max, Bool, true, false, cond, not, List, [], ◌∷◌, ◌++◌, pos, Some, None, Option, nat_lt}
use Rattle.rules.specs.Basics.{those, the}
use Rattle.rules.specs.Fractions.{tick}
use Rattle.rules.specs.Stamps.{Stamp, at}
use Rattle.rules.specs.Paths.{Axis, X, Y, Z, leg}
use Rattle.rules.specs.Books.{path, break_after, follows, BookChange, file, ride, changed}
use Rattle.rules.specs.Boxes.{Box, Ends, ends, overlap, fails}
use Rattle.rules.specs.Slots.{slot, leg_slot}
use Rattle.model.specs.Halls.{Craft, Hall, with_book, with_craft, with_bit, with_slot, entered, others}

-- a hall, and the lines written on the way to it
pub record Out : Type 0 where
  pub hall : Hall
  pub lines : List ℕ

abbrev pub silent : Hall → Out
silent m = record { hall = m; lines = [] }

-- one move after another, with the lines of both
abbrev pub then : (Hall → Out) → (Hall → Out) → Hall → Out
then f g m = let a = f m in let b = g a.hall in record { hall = b.hall; lines = a.lines ++ b.lines }

-- for every craft of a list in turn
abbrev pub each : (ℕ → Hall → Out) → List ℕ → Hall → Out
each f [] m = silent m
each f (d ∷ ds) m = then (f d) (each f ds) m

abbrev pub on_axes : (Axis → Hall → Out) → Hall → Out
on_axes f = then (f X) (then (f Y) (f Z))

-- a line is number × 4 + kind
abbrev pub granted : ℕ → ℕ
granted n = n * 4 + 1

abbrev pub fired : ℕ → ℕ
fired n = n * 4 + 2

abbrev pub withdrawn : ℕ → ℕ
withdrawn n = n * 4 + 3

-- grant the next number to a slot, and queue the moment at which its certificate fails
abbrev pub grant : ℕ → Option Stamp → Hall → Out
grant s f m = let n = suc m.last in record { hall = with_slot s n f n m; lines = granted n ∷ [] }

-- take a slot's certificate away, fired or withdrawn as the line says
abbrev pub take_away : (ℕ → ℕ) → ℕ → Hall → Out
take_away line s m = record { hall = with_slot s 0 None m.last m; lines = line (m.number s) ∷ [] }

-- the record of an entered craft; of any other it does not matter
abbrev pub nobody : Craft
nobody = record { box = record { half = λ _. 1 }; leg = λ _. record { base = pos 0; slope = pos 0 } }

abbrev pub craft_of : ℕ → Hall → Craft
craft_of c m = the nobody (m.craft c)

-- the ends of a craft's box on its present leg
abbrev pub ends_of : Axis → ℕ → Hall → Ends
ends_of a c m = ends (craft_of c m).box a ((craft_of c m).leg a)

-- set a bit as it is at the present moment
abbrev pub read_bit : Axis → ℕ → ℕ → Stamp → Hall → Hall
read_bit a c d k m = with_bit (slot a c d) (overlap (ends_of a (min c d) m) (ends_of a (max c d) m) k) m

-- grant a bit's certificate: it fails when the bit is wrong on the present legs
abbrev pub grant_bit : Axis → ℕ → ℕ → Stamp → Hall → Out
grant_bit a c d k m = grant (slot a c d) (fails (m.bit (slot a c d)) (ends_of a (min c d) m) (ends_of a (max c d) m) k) m

abbrev pub enter_bit : Axis → ℕ → Stamp → ℕ → Hall → Out
enter_bit a c k d m = grant_bit a c d k (read_bit a c d k m)

abbrev pub drop_bit : Axis → ℕ → ℕ → Hall → Out
drop_bit a c d = then (take_away withdrawn (slot a c d)) (λ h. silent (with_bit (slot a c d) false h))

-- the moment of a break, if there is one
abbrev pub at_break : Option ℕ → Option Stamp
at_break None = None
at_break (Some i) = Some (at (tick i))

abbrev pub grant_leg : ℕ → Stamp → Hall → Out
grant_leg c k m = grant (leg_slot c) (at_break (break_after m.book c k.time)) m

-- a craft's record with its leg read now
abbrev pub read_leg : ℕ → Box → Stamp → Hall → Hall
read_leg c b k m = with_craft c (Some (record { box = b; leg = leg (path m.book c) k.time })) m

-- with every other craft the bit is read and its certificate granted; then the leg certificate
abbrev pub enter : ℕ → Box → Stamp → Hall → Out
enter c b k m = then (on_axes (λ a. each (enter_bit a c k) (others c m))) (grant_leg c k) (read_leg c b k m)

-- the same order, each withdrawn and its bit dropped
abbrev pub leave : ℕ → Hall → Out
leave c m = then (on_axes (λ a. each (drop_bit a c) (others c m))) (then (take_away withdrawn (leg_slot c)) (λ h. silent (with_craft c None h))) m

-- the craft whose plan or seat is set
abbrev pub craft_set : BookChange → ℕ
craft_set (file c p) = c
craft_set (ride c j k) = c

-- the entered craft that follow one, ascending
abbrev pub followers : ℕ → Hall → List ℕ
followers c m = those (follows m.book c) (entered m)

-- the followers leave, the book changes, and they enter again with the boxes that they had in the hall m₀
abbrev pub come_back : List ℕ → Hall → Stamp → Hall → Out
come_back ds m₀ k = each (λ d. enter d (craft_of d m₀).box k) ds

abbrev pub change : BookChange → Stamp → Hall → Out
change x k m = let ds = followers (craft_set x) m in then (each leave ds) (λ h. come_back ds m k (with_book (changed x h.book) h)) m

-- what a slot below 12,288 names: an axis and two craft
abbrev pub axis_of : ℕ → Axis
axis_of s = cond (nat_lt s 4096) X (cond (nat_lt s 8192) Y Z)

abbrev pub lower_of : ℕ → ℕ
lower_of s = s % 4096 / 64

abbrev pub higher_of : ℕ → ℕ
higher_of s = s % 64

-- firing a bit's certificate: the bit changes, and its next certificate is granted
abbrev pub fire_bit : ℕ → Stamp → Hall → Out
fire_bit s k m = grant_bit (axis_of s) (lower_of s) (higher_of s) k (with_bit s (not (m.bit s)) m)

-- on an axis, the certificates of c with each of ds are withdrawn, then granted anew; no bit changes
abbrev pub renew : ℕ → List ℕ → Stamp → Axis → Hall → Out
renew c ds k a = then (each (λ d. take_away withdrawn (slot a c d)) ds) (each (λ d. grant_bit a c d k) ds)

-- firing a leg certificate: the leg is read anew
abbrev pub fire_leg : ℕ → Stamp → Hall → Out
fire_leg c k m = then (on_axes (renew c (others c m) k)) (grant_leg c k) (read_leg c (craft_of c m).box k m)

abbrev pub fire_kind : (bit : Bool) → ℕ → Stamp → Hall → Out
fire_kind true s = fire_bit s
fire_kind false s = fire_leg (s - 12288)

-- a firing at the certificate's moment, which is then present, begins with its fired line
abbrev pub fire : ℕ → Stamp → Hall → Out
fire s k = then (take_away fired s) (fire_kind (nat_lt s 12288) s k)
