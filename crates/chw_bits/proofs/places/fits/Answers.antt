use Rattle.std.proofs.Common.{arith}
use Rattle.std.proofs.Math.Nat.{div-eq_of_lt}
use Rattle.std.proofs.lemmas.Bool.Decides.{nat_tests}
use Rattle.chw_bits.proofs.Numbers.{lt-pow, below_from_shift}
use Rattle.chw_bits.proofs.places.fits.Goals as goal

pub returns-then-width-ge128 : goal.returns-then-width-ge128
returns-then-width-ge128 c = (λ _. lt-pow c.args.n 128 c.args.width (omega arith) (omega arith), λ _. grind (arith, nat_tests))

pub returns-else-width-ge128 : goal.returns-else-width-ge128
returns-else-width-ge128 c =
    (λ t. below_from_shift c.args.n c.args.width (grind (arith, nat_tests)), λ below. let e = div-eq_of_lt below in grind (arith, nat_tests))
