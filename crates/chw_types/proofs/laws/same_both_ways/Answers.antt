use Rattle.chw_types.proofs.SameLaws.{same_turned}
use Rattle.chw_types.proofs.laws.same_both_ways.Goals as goal

pub returns : goal.returns
returns c t u h = same_turned h
