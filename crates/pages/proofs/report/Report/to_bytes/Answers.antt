use Rattle.std.proofs.Common.{◌≡◌, ℕ, ◌/◌, ◌%◌, List, [], ◌∷◌, get_or, arith}
use Rattle.rules.specs.Fractions.{Fraction}
use Rattle.rules.specs.Pages.{news_record}
use Rattle.times.specs.Of.{time_of}
use Rattle.pages.specs.Kinds.{tag_of}
use Rattle.pages.specs.Of.{news_told}
use Rattle.pages.specs.declared.report.Kind.{Kind}
use Rattle.pages.specs.declared.report.Kind.TheVariants.{Meeting, Parting}
use Rattle.pages.proofs.report.Report.to_bytes.Goals as goal

record_is : (k : Kind) (a b n d t : ℕ) (f : Fraction) (N D L : List ℕ) → t ≡ tag_of k
    → L ≡ 0 ∷ 8 ∷ [] → N ≡ n / 16777216 % 256 ∷ n / 65536 % 256 ∷ n / 256 % 256 ∷ n % 256 ∷ [] → D ≡ d / 256 % 256 ∷ d % 256 ∷ []
    → n ≡ f.num → d ≡ f.den
    → t ∷ get_or L 0 0 ∷ get_or L 1 0 ∷ a ∷ b ∷ get_or N 0 0 ∷ get_or N 1 0 ∷ get_or N 2 0 ∷ get_or N 3 0 ∷ get_or D 0 0 ∷ get_or D 1 0 ∷ [] ≡ news_record (news_told k a b) f
record_is Meeting a b n d t f N D L p q r s u v = let x : n / 1 ≡ n = omega arith in let y : d / 1 ≡ d = omega arith in cc
record_is Parting a b n d t f N D L p q r s u v = let x : n / 1 ≡ n = omega arith in let y : d / 1 ≡ d = omega arith in cc

pub returns : goal.returns
returns c =
    let r = c.args.self in
    record_is r.kind r.lower r.higher _ _ _ (time_of r.time) _ _ _ c.from-tag.ensures c.to_be_bytes.ensures
    c.to_be_bytes-2.ensures c.to_be_bytes-3.ensures c.numerator.ensures c.denominator.ensures
