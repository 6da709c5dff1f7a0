-- The code's axes, and what lies on them, as values.
use Rattle.rules.specs.Paths.{Axis as FlightAxis, X as atX, Y as atY, Z as atZ}
use Rattle.fleet.specs.declared.axes.Axis.{Axis}
use Rattle.fleet.specs.declared.axes.Axis.TheVariants.{X, Y, Z}
use Rattle.fleet.specs.declared.axes.Xyz.{Xyz}

abbrev pub axis_of : Axis → FlightAxis
axis_of X = atX
axis_of Y = atY
axis_of Z = atZ

-- what lies on an axis
abbrev pub part : {T : Type 0} → Xyz T → Axis → T
part p X = p.x
part p Y = p.y
part p Z = p.z
