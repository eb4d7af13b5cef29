use Rattle.prim_bits.proofs.Exact.{exact_sum, exact_product, exact_extension}
use Rattle.prim_bits.proofs.laws.exact_results.Goals as goal

pub returns : goal.returns
returns c = record { sum = exact_sum; product = exact_product; extension = exact_extension }
