use Rattle.chw_types.proofs.CeilingLaws.{sums_associate}
use Rattle.chw_types.proofs.laws.sums_associate.Goals as goal

pub returns : goal.returns
returns c a b d = sums_associate a b d
