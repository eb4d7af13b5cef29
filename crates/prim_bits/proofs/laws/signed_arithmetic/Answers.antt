use Rattle.prim_bits.proofs.SignedResults.{same_sum, same_difference, same_product}
use Rattle.prim_bits.proofs.laws.signed_arithmetic.Goals as goal

pub returns : goal.returns
returns c = record { sum = same_sum; difference = same_difference; product = same_product }
