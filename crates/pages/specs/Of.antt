-- The code's reports and records as values, and what writing and reading come to.
use Rattle.std.specs.Prelude.{ℕ, ◌+◌, Bool, cond, List, [], ◌∷◌, ◌++◌, length, take, drop, Some, None, Ok, Err, Option, Result, nat_le}
use Rattle.rules.specs.Pages.{News, met, parted, Report, page_record, report_in}
use Rattle.times.specs.Of.{time_of}
use Rattle.pages.specs.declared.report.Kind.{Kind}
use Rattle.pages.specs.declared.report.Kind.TheVariants.{Meeting, Parting}
use Rattle.pages.specs.declared.report.Report.{Report as Written}
use Rattle.pages.specs.declared.report.Record.{Record}
use Rattle.pages.specs.declared.read.Damaged.{Damaged}

abbrev pub news_told : Kind → ℕ → ℕ → News
news_told Meeting c d = met c d
news_told Parting c d = parted c d

abbrev pub report_of : Written → Report
report_of r = record { time = time_of r.time; news = news_told r.kind r.lower r.higher }

abbrev pub record_told : Record → Report
record_told r = record { time = record { num = r.n; den = r.d }; news = news_told r.kind r.lower r.higher }

-- WRITING

-- a record fits from `at` on
abbrev pub has_room : List ℕ → ℕ → Bool
has_room page at = nat_le (at + 11) (length page)

-- the page with a report's record from `at` on, and all else as it was; the same page where there is no room
abbrev pub page_after : List ℕ → ℕ → Report → List ℕ
page_after page at r = cond (has_room page at) (take at page ++ (page_record r ++ drop (at + 11) page)) page

-- how many bytes of the page are then used, or none where there is no room
abbrev pub used_after : List ℕ → ℕ → Option ℕ
used_after page at = cond (has_room page at) (Some (at + 11)) None

-- the same as a number, where it stays as it was without room
abbrev pub used_then : List ℕ → ℕ → ℕ
used_then page at = cond (has_room page at) (at + 11) at

-- READING

-- one record of the code, or none
abbrev pub record_in : Result Record Damaged → Option Report
record_in (Ok r) = Some (record_told r)
record_in (Err e) = None

-- what a reader finds next: nothing more, a report, or bytes that are no record of a page
pub data Found : Type 0 where
  no_more : Found
  found : Report → Found
  damage : Found

abbrev pub found_as : Option Report → Found
found_as None = damage
found_as (Some r) = found r

abbrev pub next_in : List ℕ → Found
next_in [] = no_more
next_in (b ∷ bs) = found_as (report_in (take 11 (b ∷ bs)))

-- what is left to read: a report's bytes are passed, and nothing else is
abbrev pub left_after : Found → List ℕ → List ℕ
left_after no_more bs = bs
left_after (found r) bs = drop 11 bs
left_after damage bs = bs

-- the answer of the code's reader
abbrev pub answer_of : Result (Option Record) Damaged → Found
answer_of (Ok None) = no_more
answer_of (Ok (Some r)) = found (record_told r)
answer_of (Err e) = damage
