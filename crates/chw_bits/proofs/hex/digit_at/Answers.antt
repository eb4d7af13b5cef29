use Rattle.std.proofs.Common.{◌-◌, ◌*◌, length, ap, ◌∙◌, arith}
use Rattle.chw_bits.specs.Hex.{hex_digit}
use Rattle.chw_bits.proofs.Digits.{number_of_digit}
use Rattle.chw_bits.proofs.hex.digit_at.Goals as goal

pub returns : goal.returns
returns c =
    let bits = c.args.bits.now in
    let end = length bits - 4 * c.args.place in
    let number = number_of_digit bits end c.args.place c.saturating_sub-from.result (omega arith) (omega arith) in
    c.digit_of.ensures ∙ ap hex_digit (c.nibble.ensures.number ∙ number)
