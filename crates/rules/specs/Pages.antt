-- Reports, and the records of a page.
use Rattle.std.specs.Prelude.{ℕ, zero, suc, ◌+◌, ◌*◌, ◌/◌, ◌%◌, ◌^◌, cond, ◌&&◌, List, [], ◌∷◌, ◌++◌, length, take, drop, Some, None, Option, ◌==◌, slice_index}
use Rattle.rules.specs.Fractions.{Fraction}

-- two craft met, or parted: the lower and the higher number
pub data News : Type 0 where
  met : ℕ → ℕ → News
  parted : ℕ → ℕ → News

-- a meeting or parting, with its time
pub record Report : Type 0 where
  pub time : Fraction
  pub news : News

-- a number in k bytes, high byte first
abbrev pub bytes : ℕ → ℕ → List ℕ
bytes zero n = []
bytes (suc k) n = n / 256 ^ k % 256 ∷ bytes k n

-- a record: tag (1), length (2), and that many bytes
abbrev pub record_of : ℕ → List ℕ → List ℕ
record_of tag bs = tag ∷ bytes 2 (length bs) ++ bs

-- lower craft (1), higher craft (1), n (4), d (2)
abbrev pub pair_bytes : ℕ → ℕ → Fraction → List ℕ
pair_bytes c d t = c ∷ d ∷ bytes 4 t.num ++ bytes 2 t.den

-- on a page, tag 1 is a meeting and tag 2 a parting
abbrev pub news_record : News → Fraction → List ℕ
news_record (met c d) t = record_of 1 (pair_bytes c d t)
news_record (parted c d) t = record_of 2 (pair_bytes c d t)

abbrev pub page_record : Report → List ℕ
page_record r = news_record r.news r.time

abbrev pub page_of : List Report → List ℕ
page_of [] = []
page_of (r ∷ rs) = page_record r ++ page_of rs

-- READING BACK

-- bytes as a number, high byte first
abbrev pub number_from : ℕ → List ℕ → ℕ
number_from n [] = n
number_from n (b ∷ bs) = number_from (256 * n + b) bs

abbrev pub number : List ℕ → ℕ
number = number_from 0

abbrev pub news_of : (tag c d : ℕ) → Option News
news_of tag c d = cond (tag == 1) (Some (met c d)) (cond (tag == 2) (Some (parted c d)) None)

abbrev pub at_time : Fraction → Option News → Option Report
at_time t None = None
at_time t (Some w) = Some (record { time = t; news = w })

-- the report of one record, where these bytes are one: 11 bytes, with a tag of a page and the length 8
abbrev pub report_in : List ℕ → Option Report
report_in bs = cond (length bs == 11 && number (take 2 (drop 1 bs)) == 8)
    (at_time (record { num = number (take 4 (drop 5 bs)); den = number (take 2 (drop 9 bs)) }) (news_of (slice_index bs 0) (slice_index bs 3) (slice_index bs 4)))
    None

abbrev pub before_rest : Option Report → Option (List Report) → Option (List Report)
before_rest None rest = None
before_rest (Some r) None = None
before_rest (Some r) (Some rs) = Some (r ∷ rs)

-- the reports of at most k records
abbrev pub reports_in : ℕ → List ℕ → Option (List Report)
reports_in k [] = Some []
reports_in zero (b ∷ bs) = None
reports_in (suc k) (b ∷ bs) = before_rest (report_in (take 11 (b ∷ bs))) (reports_in k (drop 11 (b ∷ bs)))

-- the reports of a page, or none where its bytes are not whole records of this kind
abbrev pub page_read : List ℕ → Option (List Report)
page_read bs = reports_in (length bs) bs
