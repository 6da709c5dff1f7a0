-- Bytes as text: places, lines and words.
use Rattle.std.specs.Prelude.{ℕ, ◌+◌, ◌-◌, cond, List, [], ◌∷◌, ◌++◌, length, take, drop, Some, None, Option, ◌==◌, nat_lt, slice_index}
use Rattle.std.specs.List.{position_or_len}

-- where a byte first stands, or the length where it does not
abbrev pub place : ℕ → List ℕ → ℕ
place b bs = position_or_len (λ c. c == b) bs

-- what stands before the first such byte, and what after it
abbrev pub split_once : ℕ → List ℕ → Option (List ℕ × List ℕ)
split_once b bs = cond (nat_lt (place b bs) (length bs)) (Some (take (place b bs) bs, drop (place b bs + 1) bs)) None

-- LINES

-- what stands before the first line feed, or all
abbrev pub up_to_feed : List ℕ → List ℕ
up_to_feed bs = take (place 10 bs) bs

-- a carriage return goes with the line feed after it
abbrev pub without_return : List ℕ → List ℕ
without_return l = cond (slice_index l (length l - 1) == 13) (take (length l - 1) l) l

-- the first line without its end
abbrev pub first_line : List ℕ → List ℕ
first_line bs = cond (nat_lt (place 10 bs) (length bs)) (without_return (up_to_feed bs)) bs

-- what comes after the first line
abbrev pub after_line : List ℕ → List ℕ
after_line bs = drop (place 10 bs + 1) bs

-- the next line, or none at the end of the input
abbrev pub next_line : List ℕ → Option (List ℕ)
next_line bs = cond (length bs == 0) None (Some (first_line bs))

-- WORDS

-- a comment begins at the first `#`
abbrev pub before_comment : List ℕ → List ℕ
before_comment line = take (place 35 line) line

-- a run of bytes is a word unless it is empty
abbrev pub keep : List ℕ → List (List ℕ) → List (List ℕ)
keep [] ws = ws
keep (c ∷ cs) ws = (c ∷ cs) ∷ ws

-- the words that a run so far and the bytes after it make
abbrev pub words_from : List ℕ → List ℕ → List (List ℕ)
words_from run [] = keep run []
words_from run (c ∷ cs) = cond (c == 32) (keep run (words_from [] cs)) (words_from (run ++ (c ∷ [])) cs)

-- the longest runs without a space
abbrev pub words : List ℕ → List (List ℕ)
words bs = words_from [] bs
