use Rattle.std.proofs.Common.{◌≡◌, ◌∷◌, ◌<◌, Some, None, false, codes, sym, ap, ◌∙◌, arith, rules}
use Rattle.std.proofs.lemmas.Grind.{common_steps}
use Rattle.std.proofs.lemmas.Slice.Eq.{text_from_reads}
use Rattle.std.specs.Str.{bytes_eq}
use Rattle.console_read.specs.Shapes.{left, leg_text}
use Rattle.console_read.proofs.Filed.{is_blank, begun, no_word, not_read, leg_read, end_missing, end_unread, end_followed, end_read}
use Rattle.console_read.proofs.legs.plan.Goals as goal

pub loop-rest-init : goal.loop-rest-init
loop-rest-init c =
    let b = c.default-legs.ensures in
    begun c.default-legs.result (left c.args.rest) (is_blank c.default-legs.result b.0 b.1.0 b.1.1.0 b.1.1.1)

pub returns-in_err-word : goal.returns-in_err-word
returns-in_err-word c =
    c.from_residual.ensures ∙ no_word c.args.craft c.args.at c.loop-rest.legs c.loop-rest.count (left c.loop-rest.rest) (left c.args.rest) c.loop-rest.invariant c.in_err-word.ensures.steps.0

pub returns-in_err-next-in-end : goal.returns-in_err-next-in-end
returns-in_err-next-in-end c =
    let w = c.in_ok-word.word.now in
    let e : w ≡ codes "end" = text_from_reads w (codes "end") (omega arith) (search rules) in
    c.from_residual-in_err-next-in-end.ensures ∙ end_missing c.args.craft c.args.at c.loop-rest.legs c.loop-rest.count (left c.loop-rest.rest) (left c.args.rest) c.loop-rest.invariant w (left c.next.new.self) c.in_ok-word.ensures.steps
    (ap (λ w. bytes_eq w (codes "end")) e) c.in_err-next-in-end.ensures.steps.0

pub returns-in_err-end-in-end : goal.returns-in_err-end-in-end
returns-in_err-end-in-end c =
    let w = c.in_ok-word.word.now in
    let e : w ≡ codes "end" = text_from_reads w (codes "end") (omega arith) (search rules) in
    c.from_residual-in_err-end-in-end.ensures ∙ end_unread c.args.craft c.args.at c.loop-rest.legs c.loop-rest.count (left c.loop-rest.rest) (left c.args.rest) c.loop-rest.invariant w (left c.next.new.self) c.in_ok-word.ensures.steps
    (ap (λ w. bytes_eq w (codes "end")) e) c.in_ok-next-in-end.field-0.now (left c.next-in-end.new.self) c.in_ok-next-in-end.ensures.steps (sym c.in_err-end-in-end.ensures)

pub returns-in_err-ended-in-end : goal.returns-in_err-ended-in-end
returns-in_err-ended-in-end c =
    let w = c.in_ok-word.word.now in
    let e : w ≡ codes "end" = text_from_reads w (codes "end") (omega arith) (search rules) in
    c.from_residual-in_err-ended-in-end.ensures ∙ end_followed c.args.craft c.args.at c.loop-rest.legs c.loop-rest.count (left c.loop-rest.rest) (left c.args.rest) c.loop-rest.invariant w (left c.next.new.self) c.in_ok-word.ensures.steps
    (ap (λ w. bytes_eq w (codes "end")) e) c.in_ok-next-in-end.field-0.now (left c.next-in-end.new.self) c.in_ok-next-in-end.ensures.steps c.in_err-ended-in-end.ensures

pub returns-in-end : goal.returns-in-end
returns-in-end c =
    let w = c.in_ok-word.word.now in
    let e : w ≡ codes "end" = text_from_reads w (codes "end") (omega arith) (search rules) in
    end_read c.args.craft c.args.at c.loop-rest.legs c.loop-rest.count (left c.loop-rest.rest) (left c.args.rest) c.loop-rest.invariant w (left c.next.new.self) c.in_ok-word.ensures.steps
    (ap (λ w. bytes_eq w (codes "end")) e) c.in_ok-next-in-end.field-0.now (left c.next-in-end.new.self) c.in_ok-end-in-end.end c.in_ok-next-in-end.ensures.steps (sym c.in_ok-end-in-end.ensures) c.in_ok-ended-in-end.ensures

pub returns-then-from-ge-MOST_LEGS : goal.returns-then-from-ge-MOST_LEGS
returns-then-from-ge-MOST_LEGS c =
    let w = c.in_ok-word.word.now in
    let n : bytes_eq w (codes "end") ≡ false = grind (arith, common_steps) in
    not_read c.args.craft c.args.at c.loop-rest.legs c.loop-rest.count (left c.loop-rest.rest) (left c.args.rest) c.loop-rest.invariant w (left c.next.new.self) c.in_ok-word.ensures.steps n (λ h. absurd (omega arith))

pub returns-in_err-legs-in_default : goal.returns-in_err-legs-in_default
returns-in_err-legs-in_default c =
    let w = c.in_ok-word.word.now in
    let n : bytes_eq w (codes "end") ≡ false = grind (arith, common_steps) in
    let e : leg_text (w ∷ left c.next.new.self) ≡ None = sym c.in_err-legs-in_default.ensures.read in
    c.from_residual-in_err-legs-in_default.ensures ∙ not_read c.args.craft c.args.at c.loop-rest.legs c.loop-rest.count (left c.loop-rest.rest) (left c.args.rest) c.loop-rest.invariant w (left c.next.new.self) c.in_ok-word.ensures.steps n (λ _. e)

pub loop-rest-preserved : goal.loop-rest-preserved
loop-rest-preserved c =
    let w = c.in_ok-word.word.now in
    let n : bytes_eq w (codes "end") ≡ false = grind (arith, common_steps) in
    let few : c.loop-rest.count < 20 = omega arith in
    let e : leg_text (w ∷ left c.next.new.self) ≡ Some c.in_ok-legs-in_default.field-0 = sym c.in_ok-legs-in_default.ensures.read in
    rw c.from-in_default.ensures
    (leg_read c.args.craft c.args.at c.loop-rest.legs c.loop-rest.count (left c.loop-rest.rest) (left c.args.rest) c.loop-rest.invariant w (left c.next.new.self) c.in_ok-word.ensures.steps c.in_ok-legs-in_default.field-0 (left c.leg.new.rest) few n e c.in_ok-legs-in_default.ensures.moved)
