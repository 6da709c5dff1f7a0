-- Numbers and times as they may be written.
use Rattle.std.specs.Prelude.{ℕ, ◌+◌, ◌-◌, ◌*◌, Bool, not, cond, ◌&&◌, ◌||◌, List, [], ◌∷◌, length, take, drop, ℤ, pos, neg_ℤ, Some, None, Option, ◌==◌, nat_le, nat_lt, slice_index}
use Rattle.std.specs.List.{position_or_len}
use Rattle.console_text.specs.Texts.{place}
use Rattle.console_text.specs.declared.numbers.TimeText.{TimeText}

-- a decimal digit
abbrev pub is_digit : ℕ → Bool
is_digit c = nat_le 48 c && nat_le c 57

-- the number that digits give after n
abbrev pub digits_from : ℕ → List ℕ → Option ℕ
digits_from n [] = Some n
digits_from n (c ∷ cs) = cond (is_digit c) (digits_from (n * 10 + (c - 48)) cs) None

-- one or more digits
abbrev pub digits_in : List ℕ → Option ℕ
digits_in ds = cond (length ds == 0) None (digits_from 0 ds)

-- a number, where it is at most `most`
abbrev pub limited : ℕ → Option ℕ → Option ℕ
limited most None = None
limited most (Some n) = cond (nat_le n most) (Some n) None

-- one `+` may stand in front
abbrev pub after_plus : List ℕ → List ℕ
after_plus w = cond (slice_index w 0 == 43) (drop 1 w) w

-- a number from 0 to `most`
abbrev pub unsigned_in : ℕ → List ℕ → Option ℕ
unsigned_in most w = limited most (digits_in (after_plus w))

abbrev pub plus : Option ℕ → Option ℤ
plus None = None
plus (Some n) = Some (pos n)

abbrev pub minus : Option ℕ → Option ℤ
minus None = None
minus (Some n) = Some (neg_ℤ (pos n))

-- a number from -low to high
abbrev pub signed_in : ℕ → ℕ → List ℕ → Option ℤ
signed_in low high w = cond (slice_index w 0 == 45) (minus (limited low (digits_in (drop 1 w)))) (plus (unsigned_in high w))

abbrev pub both : Option ℕ → Option ℕ → Option TimeText
both None d = None
both (Some n) None = None
both (Some n) (Some d) = Some (record { n = n; d = d })

-- one `+` or `-` may stand in front
abbrev pub after_sign : List ℕ → List ℕ
after_sign w = cond (slice_index w 0 == 43 || slice_index w 0 == 45) (drop 1 w) w

-- what stands after leading zeros
abbrev pub after_zeros : List ℕ → List ℕ
after_zeros ds = drop (position_or_len (λ c. not (c == 48)) ds) ds

-- more than ten bytes stand after the sign and the leading zeros
abbrev pub is_too_long : List ℕ → Bool
is_too_long w = nat_lt 10 (length (after_zeros (after_sign w)))

-- a time N or N/D, in 32 and 16 bits; N is N/1
abbrev pub time_in : List ℕ → Option TimeText
time_in w = cond (nat_lt (place 47 w) (length w))
    (both (unsigned_in 4294967295 (take (place 47 w) w)) (unsigned_in 65535 (drop (place 47 w + 1) w)))
    (both (unsigned_in 4294967295 w) (Some 1))
