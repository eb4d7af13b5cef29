use Rattle.std.proofs.Common.{◌-◌, ◌++◌, length, sym, ap, subst, ◌∙◌}
use Rattle.std.specs.Str.Parse.{AllDigits, digits_value}
use Rattle.verilog_checks.proofs.HexDigits.{all_padded}
use Rattle.verilog_checks.proofs.Padding.{value_padded}
use Rattle.verilog_checks.proofs.literals.padded.Goals as goal

pub returns-clause-number : goal.returns-clause-number
returns-clause-number c = ap (digits_value 16) c.in_ok-extend_from_slice.ensures.items
    ∙ ap (λ t. digits_value 16 (t ++ c.args.digits.now)) (c.in_ok-text.ensures.items_if_clones_equal (λ y e. e)) ∙ value_padded (c.args.count - length c.args.digits.now) c.args.digits.now

pub returns-clause-hex : goal.returns-clause-hex
returns-clause-hex c = λ all.
    subst (AllDigits 16) (sym (c.in_ok-extend_from_slice.ensures.items ∙ ap (λ t. t ++ c.args.digits.now) (c.in_ok-text.ensures.items_if_clones_equal (λ y e. e))))
    (all_padded (c.args.count - length c.args.digits.now) c.args.digits.now all)
