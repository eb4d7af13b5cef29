use Rattle.std.proofs.Common.{◌∙◌}
use Rattle.chw_types.specs.SummandView.{sum_of}
use Rattle.chw_types.proofs.ProductsTurned.{product_turned}
use Rattle.chw_types.proofs.polynomial.product.Goals as goal

pub returns-in_ok-product_by_halves-2-clause-product : goal.returns-in_ok-product_by_halves-2-clause-product
returns-in_ok-product_by_halves-2-clause-product c m =
    c.in_ok-product_by_halves-2.ensures.product m
    ∙ product_turned (sum_of c.args.q.now) (sum_of c.args.p.now) c.requires.second c.requires.first m
