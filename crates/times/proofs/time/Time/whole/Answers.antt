use Rattle.std.proofs.Common.{◌≡◌, ℕ, ◌*◌, ◌/◌, ◌<◌, ◌≤◌, div-lt_iff_lt-mul, arith}
use Rattle.times.proofs.time.Time.whole.Goals as goal

below : (n d e : ℕ) → e ≡ d → 0 < d → n ≤ 50000 * d → n / e < 65536
below n d e q p h = rw q ((div-lt_iff_lt-mul p).1 (omega arith))

pub overflow_cast-result : goal.overflow_cast-result
overflow_cast-result c =
    let h = below c.args.self.n c.args.self.d c.from.result c.from.ensures c.args.self.positive c.args.self.inside in
    omega arith
