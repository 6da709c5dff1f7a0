-- What is written of a byte.
use Rattle.std.proofs.Common.{◌≡◌, ℕ, ◌-◌, ◌^◌, ◌<◌, false, List, [], Some, Option, ap, ◌∙◌}
use Rattle.std.proofs.lemmas.Fmt.{hex_byte}
use Rattle.std.specs.Option.{option_map}
use Rattle.std.specs.Fmt.{digits, digits_output, format_spec, padded_integral, styled_digits_output}
use Rattle.console_write.specs.Pages.{byte_text}

pub byte_styled : (d : _) (s : _) (n : ℕ) → n < 256 → digits_output d ≡ Some (digits 16 false n) → s ≡ format_spec 32 0 4 2 (2 ^ 64 - 1)
    → styled_digits_output d s ≡ Some (byte_text n)
byte_styled d s n h ed es =
    ap (λ x. styled_digits_output d x) es
    ∙ ap (λ (x : Option (List ℕ)). option_map (padded_integral (format_spec 32 0 4 2 (2 ^ 64 - 1)) false []) x) ed
    ∙ ap (λ (x : List ℕ). Some x) (hex_byte false n h)
