-- What a queue's calls come to.
use Rattle.std.specs.Prelude.{ℕ, Bool, true, false, cond, Some, None, Ok, Err, Option, Result, nat_lt}
use Rattle.rules.specs.Basics.{put}
use Rattle.rules.specs.Stamps.{Stamp}
use Rattle.rules.specs.Slots.{Queue, first}
use Rattle.times.specs.declared.moment.Moment.{Moment}
use Rattle.times.specs.declared.refusal.Refusal.{Refusal}
use Rattle.times.specs.declared.refusal.Refusal.TheVariants.{SlotRange}
use Rattle.times.specs.Of.{moment_of}

-- a slot above the last, which is refused with 7
abbrev pub slot_out : ℕ → Bool
slot_out s = nat_lt 12351 s

-- the answer x, but for a slot above the last
abbrev pub answered : {A : Type 0} → ℕ → A → Result A Refusal
answered s x = cond (slot_out s) (Err SlotRange) (Ok x)

-- what is held after slot s is set or emptied: changed at exactly that slot, or not at all above the last
abbrev pub changed : Queue → ℕ → Option Stamp → Queue
changed q s o = cond (slot_out s) q (put q s o)

-- the queue's first answer, kept shut: opened, it is a scan of all slots
unfoldable pub soonest : Queue → Option (ℕ × Stamp)
soonest q = first q

-- the code's answers as values
abbrev pub stored : Option Moment → Option Stamp
stored None = None
stored (Some m) = Some (moment_of m)

abbrev pub asked_told : Result (Option Moment) Refusal → Result (Option Stamp) Refusal
asked_told (Ok o) = Ok (stored o)
asked_told (Err e) = Err e

abbrev pub first_told : Option (ℕ × Moment) → Option (ℕ × Stamp)
first_told None = None
first_told (Some p) = Some (p.0, moment_of p.1)

abbrev pub is_nothing : {A : Type 0} → Option A → Bool
is_nothing None = true
is_nothing (Some x) = false
