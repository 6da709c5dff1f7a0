-- Granting and taking away, with what the code did on the way.
use Rattle.std.proofs.Common.{◌≡◌, ℕ, ◌+◌, ◌<◌, min, max, Bool, cond, not, List, length, set, None, Option, sym, ap, ◌∙◌, arith, le-ltb}
use Rattle.rules.specs.Basics.{put}
use Rattle.rules.specs.Stamps.{Stamp}
use Rattle.rules.specs.Paths.{Axis, X, Y, Z}
use Rattle.rules.specs.Boxes.{Ends, overlap}
use Rattle.rules.specs.Books.{Book}
use Rattle.rules.specs.Slots.{Queue, slot}
use Rattle.queues.specs.Meanings.{changed}
use Rattle.model.specs.Halls.{Hall}
use Rattle.model.specs.Moves.{take_away, ends_of, grant_bit, enter_bit, fire_bit, axis_of, lower_of, higher_of}
use Rattle.tables.specs.Tables.{Table, put_number, put_bit}
use Rattle.floor_laws.specs.Writing.{Wrote}
use Rattle.floor_laws.proofs.Writes.{written_one, wrote_as}
use Rattle.floor.specs.Of.{joined}

-- a queue changed at a slot that there is
pub changed_is : (q : Queue) (s : ℕ) (o : Option Stamp) → s < 12352 → changed q s o ≡ put q s o
changed_is q s o h = ap (λ (b : Bool). cond b q (put q s o)) (le-ltb 12351 s (omega arith))

-- the lower and the higher craft of a bit's slot
slot_lower : (a : Axis) (c d : ℕ) → c < 64 → d < 64 → lower_of (slot a c d) ≡ min c d
slot_lower X c d p q = omega arith
slot_lower Y c d p q = omega arith
slot_lower Z c d p q = omega arith

slot_higher : (a : Axis) (c d : ℕ) → c < 64 → d < 64 → higher_of (slot a c d) ≡ max c d
slot_higher X c d p q = omega arith
slot_higher Y c d p q = omega arith
slot_higher Z c d p q = omega arith

module _ (b : Book) (q q' : Queue) (t t' : Table) (slot number line n : ℕ) (o : Option Stamp) (s : List ℕ) where
  pub taking : (name : ℕ → ℕ) → slot < 12352 → q' ≡ changed q slot None → t' ≡ put_number slot 0 t.last t → number ≡ t.number slot → line ≡ name number → n < length s → (s' : List ℕ) (r : ℕ) → s' ≡ set s n line → r ≡ n + 1 →
      Wrote (take_away name slot) n (joined b q t) (joined b q' t') s s' r
  taking name h e f g k l s' r u v = record {
    hall = ap (λ (x : Table). joined b q' x) f ∙ ap (λ (x : Queue). joined b x (put_number slot 0 t.last t)) (e ∙ changed_is q slot None h);
    slip = u ∙ ap (set s n) (k ∙ ap name g) ∙ written_one n (name (t.number slot)) s l;
    count = v;
  }

-- a bit of two craft, whose slot tells them
module _ (m : Hall) (a : Axis) (c d : ℕ) (k : Stamp) (low high slot' : ℕ) (p : c < 64) (q : d < 64) (e : slot' ≡ slot a c d) (f : low ≡ lower_of slot') (g : high ≡ higher_of slot') (x y : Ends) (h : x ≡ ends_of a low m) (i : y ≡ ends_of a high m) where
  low_ends : x ≡ ends_of a (min c d) m
  low_ends = h ∙ ap (λ (v : ℕ). ends_of a v m) (f ∙ ap lower_of e ∙ slot_lower a c d p q)

  high_ends : y ≡ ends_of a (max c d) m
  high_ends = i ∙ ap (λ (v : ℕ). ends_of a v m) (g ∙ ap higher_of e ∙ slot_higher a c d p q)

-- a bit set as it is, then granted
pub bit_entered : (b : Book) (q : Queue) (t t' : Table) (a : Axis) (c d : ℕ) (k : Stamp) (low high slot' : ℕ) (x y : Ends) (bit : Bool) (n r : ℕ) (m' : Hall) (s s' : List ℕ) →
    c < 64 → d < 64 → slot' ≡ slot a c d → low ≡ lower_of slot' → high ≡ higher_of slot' → x ≡ ends_of a low (joined b q t) → y ≡ ends_of a high (joined b q t) → bit ≡ overlap x y k → t' ≡ put_bit slot' bit t →
    Wrote (grant_bit a c d k) n (joined b q t') m' s s' r → Wrote (enter_bit a c k d) n (joined b q t) m' s s' r
bit_entered b q t t' a c d k low high slot' x y bit n r m' s s' o p j e f g h i l w =
    wrote_as (enter_bit a c k d) (grant_bit a c d k) n (joined b q t) (joined b q t') m' s s' r
    (ap (grant_bit a c d k) (sym (ap (joined b q) (l ∙ ap (λ (z : ℕ). put_bit z bit t) j ∙ ap (λ (v : Bool). put_bit (slot a c d) v t) same)))) w
  where
    same : bit ≡ overlap (ends_of a (min c d) (joined b q t)) (ends_of a (max c d) (joined b q t)) k
    same = i ∙ ap (λ (z : Ends). overlap z y k) (low_ends (joined b q t) a c d k low high slot' o p j e f x y g h) ∙ ap (λ (z : Ends). overlap (ends_of a (min c d) (joined b q t)) z k) (high_ends (joined b q t) a c d k low high slot' o p j e f x y g h)

-- a bit changed, then granted
pub bit_fired : (b : Book) (q : Queue) (t t' : Table) (slot' : ℕ) (k : Stamp) (a : Axis) (low high : ℕ) (bit : Bool) (n r : ℕ) (m' : Hall) (s s' : List ℕ) →
    bit ≡ t.bit slot' → t' ≡ put_bit slot' (not bit) t → a ≡ axis_of slot' → low ≡ lower_of slot' → high ≡ higher_of slot' →
    Wrote (grant_bit a low high k) n (joined b q t') m' s s' r → Wrote (fire_bit slot' k) n (joined b q t) m' s s' r
bit_fired b q t t' slot' k a low high bit n r m' s s' e f g h i w =
    wrote_as (fire_bit slot' k) (grant_bit a low high k) n (joined b q t) (joined b q t') m' s s' r
    (sym (ap (λ (z : Table). grant_bit a low high k (joined b q z)) (f ∙ ap (λ (v : Bool). put_bit slot' (not v) t) e)
    ∙ ap (λ (z : Axis). grant_bit z low high k (joined b q (put_bit slot' (not (t.bit slot')) t))) g
    ∙ ap (λ (z : ℕ). grant_bit (axis_of slot') z high k (joined b q (put_bit slot' (not (t.bit slot')) t))) h
    ∙ ap (λ (z : ℕ). grant_bit (axis_of slot') (lower_of slot') z k (joined b q (put_bit slot' (not (t.bit slot')) t))) i)) w
