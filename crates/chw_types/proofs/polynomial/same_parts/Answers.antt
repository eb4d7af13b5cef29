use Rattle.std.proofs.Common.{inr}
use Rattle.chw_types.specs.SummandView.{sum_of}
use Rattle.chw_types.proofs.ProductsTurned.{products_of_equals}
use Rattle.chw_types.proofs.polynomial.same_parts.Goals as goal

pub returns-then-same_sums-3 : goal.returns-then-same_sums-3
returns-then-same_sums-3 c same =
    products_of_equals (sum_of c.args.p.now) (sum_of c.args.q.now) (sum_of c.args.r.now) (sum_of c.args.s.now) c.requires.first c.requires.second
    (inr (c.same_sums-else-same_sums-2.ensures.0 c.if-same_sums-3.true, c.same_sums-then-same_sums-3.ensures.0 same))
