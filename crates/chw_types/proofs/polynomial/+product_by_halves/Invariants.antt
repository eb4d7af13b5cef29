use Rattle.std.proofs.Common.{length}
use Rattle.chw_types.proofs.polynomial.+product_by_halves.Given as goal

abbrev pub decreases-product_by_halves : goal.decreases-product_by_halves
decreases-product_by_halves l = length l.p.now
