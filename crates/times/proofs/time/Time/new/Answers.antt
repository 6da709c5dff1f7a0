use Rattle.std.proofs.Common.{◌≡◌, ℕ, ◌*◌, ◌/◌, ◌<◌, ◌≤◌, Ok, sym, arith}
use Rattle.rules.specs.Fractions.{IsGcd, time_made, Coprime}
use Rattle.times.proofs.Times.{fields_made, value_made}
use Rattle.times.proofs.time.Time.new.Goals as goal

-- the widened denominators are the denominator
fields : (n d e f g : ℕ) → e ≡ d → f ≡ d → 0 < d → d ≤ 16000 → n ≤ 50000 * d → IsGcd n e g → (0 < f / g) × ((f / g ≤ 16000) × ((n / g ≤ 50000 * (f / g)) × (Coprime (n / g) (f / g) × Unit {0})))
fields n d e f g p q h s b i = rw q (fields_made n d g h s b (rw p at i))

value : (n d e f g : ℕ) → e ≡ d → f ≡ d → 0 < d → d ≤ 16000 → n ≤ 50000 * d → IsGcd n e g → Ok (record { num = n / g; den = f / g }) ≡ time_made n d
value n d e f g p q h s b i = rw q (sym (value_made n d g h s b (rw p at i)))

pub invariant_of-result : goal.invariant_of-result
invariant_of-result c =
    let f = fields c.args.n c.args.d c.from-2.result c.from-3.result c.gcd-g.result c.from-2.ensures c.from-3.ensures
    (omega arith) (omega arith) (omega arith) c.gcd-g.ensures in
    record { positive = f.0; small = f.1.0; inside = f.1.1.0; least = f.1.1.1.0 }

pub returns : goal.returns
returns c =
    value c.args.n c.args.d c.from-2.result c.from-3.result c.gcd-g.result c.from-2.ensures c.from-3.ensures
    (omega arith) (omega arith) (omega arith) c.gcd-g.ensures
