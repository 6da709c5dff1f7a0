-- Each command's words: how many there are, which are fixed, and how the others are read.
use Rattle.std.specs.Prelude.{ℕ, zero, suc, ◌-◌, ◌%◌, Bool, cond, ◌&&◌, List, [], ◌∷◌, ◌++◌, length, take, drop, replicate, min, ℤ, pos, Some, None, codes, Option, ◌==◌, nat_le, slice_index_or}
use Rattle.std.specs.Str.{bytes_eq}
use Rattle.fleet.specs.declared.axes.Xyz.{Xyz}
use Rattle.console_text.specs.Numbers.{unsigned_in, signed_in, time_in}
use Rattle.console_text.specs.Texts.{words}
use Rattle.console_text.specs.declared.words.Words.{Words as WordsLeft}
use Rattle.console_read.specs.Keywords.{book_of, queue_of}
use Rattle.console_read.specs.declared.command.Filing.{Filing}
use Rattle.console_read.specs.declared.command.LegText.{LegText}
use Rattle.console_read.specs.declared.command.Command.{Command}
use Rattle.console_read.specs.declared.command.Command.TheVariants.{Open, Room, File, Ride, Enter, Leave, Set, Touching, Certificate, Leg, Follows}

-- the words of a line
abbrev pub Words : Type 0
Words = List (List ℕ)

-- the words that are left
abbrev pub left : WordsLeft → Words
left ws = words ws.rest.now

-- word number k from 0
abbrev pub at : Words → ℕ → List ℕ
at ws k = slice_index_or ws k []

-- what comes after a value, where there is one
abbrev pub and_then : {A B : Type 0} → Option A → (A → Option B) → Option B
and_then None f = None
and_then (Some x) f = f x

-- a command of n words
abbrev pub of_words : ℕ → Words → Option Command → Option Command
of_words n ws o = cond (length ws == n) o None

-- whether no word is left
abbrev pub ended_of : Words → Option (Unit {0})
ended_of ws = cond (length ws == 0) (Some tt) None

-- the widths
abbrev pub byte_at : Words → ℕ → Option ℕ
byte_at ws k = unsigned_in 255 (at ws k)

abbrev pub short_at : Words → ℕ → Option ℕ
short_at ws k = unsigned_in 65535 (at ws k)

abbrev pub size_at : Words → ℕ → Option ℕ
size_at ws k = unsigned_in 1000000 (at ws k)

abbrev pub speed_at : Words → ℕ → Option ℤ
speed_at ws k = signed_in 32768 32767 (at ws k)

abbrev pub coordinate_at : Words → ℕ → Option ℤ
coordinate_at ws k = signed_in 2147483648 2147483647 (at ws k)

-- a value on each axis
abbrev pub xyz_of : {T : Type 0} → Option T → Option T → Option T → Option (Xyz T)
xyz_of ox oy oz = and_then ox (λ x. and_then oy (λ y. and_then oz (λ z. Some (record { x = x; y = y; z = z }))))

-- open BOOK LAYERS QUEUE
abbrev pub open_of : Words → Option Command
open_of ws = of_words 4 ws
    (and_then (book_of (at ws 1)) (λ b. and_then (unsigned_in 4 (at ws 2)) (λ l. and_then (queue_of (at ws 3)) (λ q. Some (Open b l q)))))

-- room SLIP PAGE LIST
abbrev pub room_of : Words → Option Command
room_of ws = of_words 4 ws (and_then (size_at ws 1) (λ s. and_then (size_at ws 2) (λ p. and_then (size_at ws 3) (λ l. Some (Room s p l)))))

-- ride C LEVEL off
abbrev pub off_of : Words → Option Command
off_of ws = of_words 4 ws (and_then (byte_at ws 1) (λ c. and_then (byte_at ws 2) (λ l. Some (Ride c l None))))

-- ride C LEVEL on K
abbrev pub on_of : Words → Option Command
on_of ws = of_words 5 ws (and_then (byte_at ws 1) (λ c. and_then (byte_at ws 2) (λ l. and_then (byte_at ws 4) (λ k. Some (Ride c l (Some k))))))

abbrev pub ride_of : Words → Option Command
ride_of ws = cond (bytes_eq (at ws 3) (codes "off")) (off_of ws) (cond (bytes_eq (at ws 3) (codes "on")) (on_of ws) None)

-- enter C HX HY HZ
abbrev pub enter_of : Words → Option Command
enter_of ws = of_words 5 ws
    (and_then (byte_at ws 1) (λ c. and_then (xyz_of (short_at ws 2) (short_at ws 3) (short_at ws 4)) (λ h. Some (Enter c h))))

-- leave C
abbrev pub leave_of : Words → Option Command
leave_of ws = of_words 2 ws (and_then (byte_at ws 1) (λ c. Some (Leave c)))

-- set TIME
abbrev pub set_of : Words → Option Command
set_of ws = of_words 2 ws (and_then (time_in (at ws 1)) (λ t. Some (Set t)))

-- touching A B
abbrev pub touching_of : Words → Option Command
touching_of ws = of_words 3 ws (and_then (byte_at ws 1) (λ a. and_then (byte_at ws 2) (λ b. Some (Touching a b))))

-- certificate SLOT
abbrev pub certificate_of : Words → Option Command
certificate_of ws = of_words 2 ws (and_then (short_at ws 1) (λ s. Some (Certificate s)))

-- leg C TIME
abbrev pub leg_of : Words → Option Command
leg_of ws = of_words 3 ws (and_then (byte_at ws 1) (λ c. and_then (time_in (at ws 2)) (λ t. Some (Leg c t))))

-- follows D C
abbrev pub follows_of : Words → Option Command
follows_of ws = of_words 3 ws (and_then (byte_at ws 1) (λ d. and_then (byte_at ws 2) (λ c. Some (Follows d c))))

-- FILING: file C at X Y Z, then legs of 5 words each, then end E

-- leg T VX VY VZ
abbrev pub leg_text : Words → Option LegText
leg_text ws = cond (bytes_eq (at ws 0) (codes "leg"))
    (and_then (short_at ws 1) (λ t. and_then (xyz_of (speed_at ws 2) (speed_at ws 3) (speed_at ws 4)) (λ v. Some (record { start = t; speed = v }))))
    None

-- end E, where no word stands after it
abbrev pub end_text : Words → Option ℕ
end_text ws = cond (length ws == 2) (short_at ws 1) None

-- the end where `end` stands, else what is read otherwise
abbrev pub end_or : Words → Option (List LegText × ℕ) → Option (List LegText × ℕ)
end_or ws o = cond (bytes_eq (at ws 0) (codes "end")) (and_then (end_text ws) (λ e. Some ([], e))) o

-- one leg after another, at most n, and then the end
unfoldable pub legs_text : ℕ → Words → Option (List LegText × ℕ)
legs_text zero ws = end_or ws None
legs_text (suc n) ws = end_or ws (and_then (leg_text ws) (λ l. and_then (legs_text n (drop 5 ws)) (λ p. Some (l ∷ p.0, p.1))))

-- so many words has a plan of 0 to 20 legs, its first word with them
abbrev pub is_plan_long : ℕ → Bool
is_plan_long n = nat_le 8 n && nat_le n 108 && n % 5 == 3

-- what stands in the table past the legs given
abbrev pub blank : LegText
blank = record { start = 0; speed = record { x = pos 0; y = pos 0; z = pos 0 } }

-- a table of 20, the legs given in front
abbrev pub table : List LegText → List LegText
table ls = ls ++ replicate (20 - length ls) blank

-- the legs of a table that are given
abbrev pub legs_given : Filing → List LegText
legs_given f = take (min f.count 20) f.legs

-- a plan of its parts
abbrev pub plan_of : ℕ → Xyz ℤ → List LegText × ℕ → Command
plan_of c p q = File (record { craft = c; at = p; legs = table q.0; count = length q.0; end = q.1 })

-- at most 20 legs, and the end
abbrev pub plan_from : ℕ → Xyz ℤ → Words → Option Command
plan_from c p ws = and_then (legs_text 20 ws) (λ q. Some (plan_of c p q))

-- file C at X Y Z, and what stands after
abbrev pub file_of : Words → Option Command
file_of ws = cond (bytes_eq (at ws 2) (codes "at"))
    (and_then (byte_at ws 1) (λ c. and_then (xyz_of (coordinate_at ws 3) (coordinate_at ws 4) (coordinate_at ws 5)) (λ p. plan_from c p (drop 6 ws))))
    None
