use Rattle.std.proofs.Common.{List, ℕ, Some, Ok, Option, get_or, arith, subst}
use Rattle.std.proofs.lemmas.Grind.{common_steps}
use Rattle.std.specs.Fmt.{DisplaysOnOk}
use Rattle.console_write.specs.Pages.{byte_text}
use Rattle.console_write.proofs.Hexing.{byte_styled}
use Rattle.console_write.proofs.pages_told.HexDisplay.fmt.Goals as goal

pub loop-byte-preserved : goal.loop-byte-preserved
loop-byte-preserved g c =
    let b : ℕ = get_or c.args.self.now.0.now c.loop-byte.byte-index 0 in
    let P : Option (List ℕ) → Type 0 = λ o. DisplaysOnOk g.W.Write.write_str_gives c.loop-byte.f (Ok c.in_ok-write-2.field-0) o c.write-in-loop-byte.new.self in
    let h : P (Some (byte_text b)) = subst P (byte_styled c.in_radix.result c.laid_out.result b (omega arith) c.in_radix.ensures c.laid_out.ensures) c.in_ok-write-2.ensures.writes in
    grind (arith, common_steps)
