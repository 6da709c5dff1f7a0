use Rattle.std.proofs.Common.{◌≡◌, rules}
use Rattle.rules.specs.Paths.{X, Y, Z, line_at}
use Rattle.times.specs.Of.{time_of}
use Rattle.plans.specs.Lines.{line_of}
use Rattle.plans.specs.Routes.{route_path}
use Rattle.plans.proofs.Routed.{answered}
use Rattle.plans.proofs.route.Route.leg.Goals as goal

pub returns : goal.returns
returns c =
    let p = route_path c.args.self.now in
    let i = c.whole-i.result in
    let x : line_of c.from_fn.result.x ≡ line_at p X i = let k = c.from_fn.ensures.x in search rules in
    let y : line_of c.from_fn.result.y ≡ line_at p Y i = let k = c.from_fn.ensures.y in search rules in
    let z : line_of c.from_fn.result.z ≡ line_at p Z i = let k = c.from_fn.ensures.z in search rules in
    answered c.args.self.now (record { lines = c.from_fn.result; next = c.next_break.result }) (time_of c.args.t) i c.args.t.positive c.whole-i.ensures x y z c.next_break.ensures
