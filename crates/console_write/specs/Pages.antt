-- The texts of a page: its bytes, and its records in words.
use Rattle.std.specs.Prelude.{ℕ, zero, suc, ◌/◌, ◌%◌, false, List, [], ◌∷◌, ◌++◌, length, codes, decimal}
use Rattle.std.specs.List.{flat_map}
use Rattle.std.specs.Fmt.{digit_glyph}
use Rattle.rules.specs.Pages.{News, met, parted, Report}
use Rattle.times.specs.Texts.{fraction_text}
use Rattle.pages.specs.Of.{Found, no_more, found, damage, next_in, left_after}

-- a byte as two hexadecimal digits in lower case
abbrev pub byte_text : ℕ → List ℕ
byte_text b = digit_glyph false (b / 16) ∷ digit_glyph false (b % 16) ∷ []

-- the bytes, after one space where there are any
abbrev pub hex_text : List ℕ → List ℕ
hex_text [] = []
hex_text (b ∷ bs) = codes " " ++ flat_map byte_text (b ∷ bs)

-- a report in words, on a line
abbrev pub report_line : List ℕ → (c d : ℕ) → List ℕ → List ℕ
report_line word c d time = word ++ (decimal c ++ (codes " " ++ (decimal d ++ (codes " at " ++ (time ++ codes "\n")))))

abbrev pub news_line : News → List ℕ → List ℕ
news_line (met c d) time = report_line (codes "  meeting ") c d time
news_line (parted c d) time = report_line (codes "  parting ") c d time

abbrev pub report_text : Report → List ℕ
report_text r = news_line r.news (fraction_text r.time)

-- the line of what a reader finds, and the rest after it
abbrev pub told_first : Found → List ℕ → List ℕ
told_first no_more rest = []
told_first (found r) rest = report_text r ++ rest
told_first damage rest = []

-- a line for each of at most k records
unfoldable pub told_in : ℕ → List ℕ → List ℕ
told_in zero bs = []
told_in (suc k) bs = told_first (next_in bs) (told_in k (left_after (next_in bs) bs))

-- a line for each record of a page, up to its end or to bytes that are no record
abbrev pub records_text : List ℕ → List ℕ
records_text bs = told_in (length bs) bs
