use Rattle.std.proofs.Common.{ap, sym, ◌∙◌, arith}
use Rattle.chw_resolve.specs.Literals.{number_in}
use Rattle.chw_grammar.specs.declared.literal.Letter.TheVariants.{S}
use Rattle.chw_resolve.proofs.Ranges.{half_at_most, two_halves, below_zero, too_low, from_zero, too_high}
use Rattle.chw_resolve.proofs.literals.signed_number.Goals as goal

pub overflow_add-result : goal.overflow_add-result
overflow_add-result c = omega (arith, half_at_most c.args.width c.power_of_two-half.result (omega arith) c.power_of_two-half.ensures)

pub returns-then-value-half-clause-number : goal.returns-then-value-half-clause-number
returns-then-value-half-clause-number c =
    below_zero c.args.value c.args.width c.power_of_two-half.result (omega arith) (omega arith) (two_halves c.args.width c.power_of_two-half.result (omega arith) c.power_of_two-half.ensures)
    ∙ ap (λ b. number_in S b c.args.value c.args.width) (sym c.if-negative.true)

pub returns-then-value-half-clause-fits : goal.returns-then-value-half-clause-fits
returns-then-value-half-clause-fits c = omega (arith, two_halves c.args.width c.power_of_two-half.result (omega arith) c.power_of_two-half.ensures)

pub returns-else-value-half-clause-number : goal.returns-else-value-half-clause-number
returns-else-value-half-clause-number c =
    too_low c.args.value c.args.width c.power_of_two-half.result (omega arith) (two_halves c.args.width c.power_of_two-half.result (omega arith) c.power_of_two-half.ensures)
    ∙ ap (λ b. number_in S b c.args.value c.args.width) (sym c.if-negative.true)

pub returns-then-value-half-2-clause-number : goal.returns-then-value-half-2-clause-number
returns-then-value-half-2-clause-number c =
    from_zero c.args.value c.args.width c.power_of_two-half.result (omega arith) (two_halves c.args.width c.power_of_two-half.result (omega arith) c.power_of_two-half.ensures)
    ∙ ap (λ b. number_in S b c.args.value c.args.width) (sym c.if-negative.false)

pub returns-then-value-half-2-clause-fits : goal.returns-then-value-half-2-clause-fits
returns-then-value-half-2-clause-fits c = omega (arith, two_halves c.args.width c.power_of_two-half.result (omega arith) c.power_of_two-half.ensures)

pub returns-else-value-half-2-clause-number : goal.returns-else-value-half-2-clause-number
returns-else-value-half-2-clause-number c =
    too_high c.args.value c.args.width c.power_of_two-half.result (omega arith) (two_halves c.args.width c.power_of_two-half.result (omega arith) c.power_of_two-half.ensures)
    ∙ ap (λ b. number_in S b c.args.value c.args.width) (sym c.if-negative.false)
