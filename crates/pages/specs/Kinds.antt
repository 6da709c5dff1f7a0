-- The kinds of records by their tags, and in words.
use Rattle.std.specs.Prelude.{ℕ, cond, List, Ok, Err, Result, ◌==◌, codes}
use Rattle.pages.specs.declared.report.Kind.{Kind}
use Rattle.pages.specs.declared.report.Kind.TheVariants.{Meeting, Parting}
use Rattle.pages.specs.declared.report.UnknownTag.{UnknownTag}

-- the tag of a record on a page
abbrev pub tag_of : Kind → ℕ
tag_of Meeting = 1
tag_of Parting = 2

-- the kind that a tag tells, or the tag itself where it tells none
abbrev pub kind_made : ℕ → Result Kind UnknownTag
kind_made n = cond (n == 1) (Ok Meeting) (cond (n == 2) (Ok Parting) (Err (record { 0 = n })))

abbrev pub word_of : Kind → List ℕ
word_of Meeting = codes "meeting"
word_of Parting = codes "parting"
