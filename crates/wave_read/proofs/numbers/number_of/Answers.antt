use Rattle.std.proofs.Common.{◌<◌, subst, arith}
use Rattle.std.proofs.lemmas.Int.Digits.{digits_more}
use Rattle.wave_read.proofs.Numerals.{number_more, stops_here}
use Rattle.wave_read.proofs.numbers.number_of.Goals as goal

pub returns-in_err-number : goal.returns-in_err-number
returns-in_err-number c =
    rw c.from_residual.ensures (stops_here c.args.digits.now c.loop-byte.byte-index c.loop-byte.number c.digit.result c.loop-byte-test.true c.loop-byte.invariant.is c.digit.ensures c.in_err-number.ensures)

pub loop-byte-preserved : goal.loop-byte-preserved
loop-byte-preserved c =
    let digits = c.args.digits.now in
    let i = c.loop-byte.byte-index in
    let taken = c.in_ok-number.ensures in
    record {
      is = number_more digits i c.loop-byte.number c.digit.result _ c.loop-byte-test.true c.loop-byte.invariant.is c.digit.ensures taken.1;
      digits = digits_more 10 digits i c.loop-byte-test.true c.loop-byte.invariant.digits (subst (λ n. n < 10) c.digit.ensures taken.0.0);
      fits = omega (arith, taken.0.1, taken.1);
    }
