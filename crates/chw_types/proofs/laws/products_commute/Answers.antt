use Rattle.chw_types.proofs.CeilingLaws.{products_commute}
use Rattle.chw_types.proofs.laws.products_commute.Goals as goal

pub returns : goal.returns
returns c a b = products_commute a b
