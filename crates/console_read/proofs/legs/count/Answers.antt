use Rattle.std.proofs.Common.{◌≡◌, [], drop, ap, arith}
use Rattle.std.proofs.lemmas.List.{drop_all}
use Rattle.console_read.proofs.Counts.{begin, words_begin}
use Rattle.console_read.proofs.legs.count.Goals as goal

pub returns : goal.returns
returns c =
    let e : drop c.loop-byte.byte-index c.args.text.now ≡ [] = drop_all c.loop-byte.byte-index c.args.text.now c.loop-byte-test.false in
    omega (arith, ap (begin c.loop-byte.last) e, c.loop-byte.invariant.0, words_begin c.args.text.now)
