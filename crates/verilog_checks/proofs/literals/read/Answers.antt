use Rattle.std.proofs.Common.{◌-◌, IfOk, length, drop, sym, ap, subst, ◌∙◌, arith}
use Rattle.std.specs.Str.Parse.{AllDigits, digits_value}
use Rattle.verilog_checks.specs.Fitting.{Fits}
use Rattle.verilog_checks.proofs.HexDigits.{all_dropped, all_taken}
use Rattle.verilog_checks.proofs.Padding.{others_value, too_many}
use Rattle.verilog_checks.proofs.literals.read.Goals as goal

pub read_all-requires-clause-hex : goal.read_all-requires-clause-hex
read_all-requires-clause-hex c =
    let extra = c.saturating_sub-extra.result in
    let digits = c.args.digits.now in
    subst (AllDigits 16) (sym c.deref.ensures.value)
    (c.in_ok-text.ensures.hex (all_taken (length digits - extra) (drop extra digits) (all_dropped extra digits c.requires)))

pub returns-then-number-gt0 : goal.returns-then-number-gt0
returns-then-number-gt0 c =
    too_many c.args.width c.args.digits.now _ _ _ c.digit_count-count.ensures c.saturating_sub-extra.ensures c.number.ensures c.if-number-gt0.true

pub returns : goal.returns
returns c =
    subst (λ n. IfOk c.read_all.result (λ bits. Fits c.args.width n bits))
    (ap (digits_value 16) c.deref.ensures.value ∙ c.in_ok-text.ensures.number
    ∙ others_value c.args.digits.now _ _ c.number.ensures (omega (arith, c.if-number-gt0.false)))
    c.read_all.ensures
