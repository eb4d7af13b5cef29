use Rattle.chw_types.proofs.CeilingLaws.{products_over_sums}
use Rattle.chw_types.proofs.laws.products_over_sums.Goals as goal

pub returns : goal.returns
returns c a b d = products_over_sums a b d
