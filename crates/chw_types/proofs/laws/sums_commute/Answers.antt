use Rattle.chw_types.proofs.CeilingLaws.{sums_commute}
use Rattle.chw_types.proofs.laws.sums_commute.Goals as goal

pub returns : goal.returns
returns c a b = sums_commute a b
