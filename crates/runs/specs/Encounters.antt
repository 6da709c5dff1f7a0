-- What a firing tells of two craft, by the bits before it.
use Rattle.std.specs.Prelude.{ℕ, Bool, cond, not, ◌&&◌, ◌||◌, Some, None, Option, nat_le, nat_lt}
use Rattle.rules.specs.Paths as path
use Rattle.rules.specs.Pages.{News}
use Rattle.fleet.specs.declared.axes.Xyz.{Xyz}
use Rattle.pages.specs.declared.report.Encounter.{Encounter}
use Rattle.pages.specs.Of.{news_told}
use Rattle.fleet.specs.declared.axes.Axis.{Axis}
use Rattle.fleet.specs.declared.axes.Axis.TheVariants.{X, Y, Z}
use Rattle.model.specs.Moves.{axis_of, lower_of, higher_of}
use Rattle.model.specs.Runs.{news}
use Rattle.runs.specs.declared.encounters.Certificate.{Certificate}
use Rattle.runs.specs.declared.encounters.Certificate.TheVariants.{Bit, Leg}

-- the code's answer as news
abbrev pub encounter_told : Option Encounter → Option News
encounter_told None = None
encounter_told (Some e) = Some (news_told e.kind e.lower e.higher)

-- the bits of two craft on x, y and z
abbrev pub Bits : Type 0
Bits = Xyz Bool

abbrev pub all_set : Bits → Bool
all_set b = b.x && b.y && b.z

-- the bit of one axis changed
abbrev pub turned : Axis → Bits → Bits
turned X b = record { x = not b.x; y = b.y; z = b.z }
turned Y b = record { x = b.x; y = not b.y; z = b.z }
turned Z b = record { x = b.x; y = b.y; z = not b.z }

-- the news of a firing: all three bits before, and after the certificate's bit has changed
abbrev pub news_of : Certificate → Bits → Option News
news_of (Bit a c d) b = news (all_set b) (all_set (turned a b)) c d
news_of Leg b = None

-- the code's name of an axis
abbrev pub code_axis : path.Axis → Axis
code_axis path.X = X
code_axis path.Y = Y
code_axis path.Z = Z

-- what a slot's certificate is of
abbrev pub certificate_at : ℕ → Certificate
certificate_at s = cond (nat_le 12288 s || nat_lt (higher_of s) (lower_of s)) Leg (Bit (code_axis (axis_of s)) (lower_of s) (higher_of s))
