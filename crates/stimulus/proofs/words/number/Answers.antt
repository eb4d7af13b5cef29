use Rattle.std.proofs.Common.{arith}
use Rattle.std.proofs.lemmas.Int.Digits.{digits_value_more}
use Rattle.stimulus.proofs.Bytes.{digit_below, few_digits}
use Rattle.stimulus.proofs.words.number.Goals as goal

pub overflow_mul-number : goal.overflow_mul-number
overflow_mul-number c =
    let small = few_digits c.args.digits.now c.loop-digit.digit-index c.requires.digits c.requires.few c.loop-digit-test.true in
    omega (arith, c.loop-digit.invariant)

pub number_of_digit-requires : goal.number_of_digit-requires
number_of_digit-requires c = digit_below 10 c.args.digits.now c.loop-digit.digit-index c.requires.digits c.loop-digit-test.true

pub overflow_add-number : goal.overflow_add-number
overflow_add-number c =
    let small = few_digits c.args.digits.now c.loop-digit.digit-index c.requires.digits c.requires.few c.loop-digit-test.true in
    let digit = digit_below 10 c.args.digits.now c.loop-digit.digit-index c.requires.digits c.loop-digit-test.true in
    omega (arith, c.loop-digit.invariant, c.number_of_digit.ensures)

pub loop-digit-preserved : goal.loop-digit-preserved
loop-digit-preserved c =
    omega (arith, c.loop-digit.invariant, c.number_of_digit.ensures, digits_value_more 10 c.args.digits.now c.loop-digit.digit-index c.loop-digit-test.true)
