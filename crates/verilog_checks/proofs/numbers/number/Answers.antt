use Rattle.std.proofs.Common.{◌+◌, ◌-◌, ◌^◌, get_or, ap, ◌∙◌}
use Rattle.std.specs.Char.{digit_value}
use Rattle.std.specs.Prelude.{min}
use Rattle.std.proofs.lemmas.Int.Digits.{digits_value_more}
use Rattle.verilog_checks.proofs.Digits.{one_digit_more}
use Rattle.verilog_checks.proofs.numbers.number.Goals as goal

pub loop-byte-preserved : goal.loop-byte-preserved
loop-byte-preserved c =
    let digits = c.args.digits.now in
    let i = c.loop-byte.byte-index in
    one_digit_more (2 ^ 64 - 1) _ (digit_value (get_or digits i 0)) _ c.loop-byte.number c.saturating_mul.result _ c.loop-byte.invariant
    (digits_value_more 10 digits i c.loop-byte-test.true) c.saturating_mul.ensures
    (c.saturating_add-number.ensures ∙ ap (λ d. min (c.saturating_mul.result + d) (2 ^ 64 - 1)) c.digit.ensures)
