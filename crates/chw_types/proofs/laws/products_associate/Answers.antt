use Rattle.chw_types.proofs.CeilingLaws.{products_associate}
use Rattle.chw_types.proofs.laws.products_associate.Goals as goal

pub returns : goal.returns
returns c a b d = products_associate a b d
