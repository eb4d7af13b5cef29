use Rattle.std.proofs.Common.{ap, ◌∙◌, sym, arith}
use Rattle.std.proofs.lemmas.List.{take_all}
use Rattle.chw_grammar.specs.Literals.{number_of, within}
use Rattle.chw_grammar.proofs.Digits.{so_far_more, too_great}
use Rattle.chw_grammar.proofs.literal.read_number.Goals as goal

pub returns-in_err-number : goal.returns-in_err-number
returns-in_err-number c =
    c.from_residual.ensures ∙ too_great 128 c.args.digits.now c.loop-digit.digit-index c.loop-digit.number c.loop-digit-test.true c.loop-digit.invariant (sym c.in_err-number.was ∙ c.with_digit.ensures)

pub loop-digit-preserved : goal.loop-digit-preserved
loop-digit-preserved c =
    so_far_more 128 c.args.digits.now c.loop-digit.digit-index c.loop-digit.number c.loop-digit-test.true c.loop-digit.invariant (sym c.in_ok-number.was ∙ c.with_digit.ensures)

pub returns : goal.returns
returns c = c.loop-digit.invariant ∙ ap (λ bytes. within 128 (number_of bytes)) (take_all c.loop-digit.digit-index c.args.digits.now (omega (arith, c.loop-digit-test.false)))
