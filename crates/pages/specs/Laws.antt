-- Reading a page back gives the reports that were written, and only the bytes of reports can be read.
use Rattle.std.specs.Prelude.{◌≡◌, ℕ, ◌^◌, ◌<◌, List, [], ◌∷◌, map, take, drop, Some, None, ◌≢◌}
use Rattle.rules.specs.Pages.{News, met, parted, Report, page_of, page_read, before_rest, report_in}
use Rattle.pages.specs.declared.report.Report.{Report as Written}
use Rattle.pages.specs.Of.{report_of}

-- the numbers of a report fit the widths of their places
abbrev pub CraftFit : News → Type 0
CraftFit (met c d) = (c < 256) × (d < 256)
CraftFit (parted c d) = (c < 256) × (d < 256)

pub record ReportFits (r : Report) : Type 0 where
  pub craft : CraftFit r.news
  pub num : r.time.num < 2 ^ 32
  pub den : r.time.den < 2 ^ 16

abbrev pub ReportsFit : List Report → Type 0
ReportsFit [] = Unit
ReportsFit (r ∷ rs) = ReportFits r × ReportsFit rs

abbrev pub BytesFit : List ℕ → Type 0
BytesFit [] = Unit
BytesFit (b ∷ bs) = (b < 256) × BytesFit bs

-- reading what was written, report after report, gives the same reports in the same order
abbrev pub ReadsBack : Type 0
ReadsBack = (rs : List Report) → ReportsFit rs → page_read (page_of rs) ≡ Some rs

-- every list of reports as the box writes them is read back: their times always fit
abbrev pub WrittenBack : Type 0
WrittenBack = (rs : List Written) → page_read (page_of (map report_of rs)) ≡ Some (map report_of rs)

-- bytes that can be read are those of the reports read, which fit
abbrev pub OnlyPages : Type 0
OnlyPages = (bs : List ℕ) (rs : List Report) → BytesFit bs → page_read bs ≡ Some rs → (page_of rs ≡ bs) × ReportsFit rs

-- bytes that cannot be read are those of no reports
abbrev pub NoPage : Type 0
NoPage = (bs : List ℕ) → page_read bs ≡ None → (rs : List Report) → ReportsFit rs → page_of rs ≢ bs

-- a page is read record by record: the first 11 bytes, then what is left
abbrev pub ReadInTurn : Type 0
ReadInTurn = (b : ℕ) (bs : List ℕ) → page_read (b ∷ bs) ≡ before_rest (report_in (take 11 (b ∷ bs))) (page_read (drop 11 (b ∷ bs)))
