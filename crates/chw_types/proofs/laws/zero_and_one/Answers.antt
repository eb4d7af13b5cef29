use Rattle.chw_types.proofs.CeilingLaws.{zero_is_neutral, one_is_neutral, zero_absorbs}
use Rattle.chw_types.proofs.laws.zero_and_one.Goals as goal

pub returns : goal.returns
returns c = record { zero = zero_is_neutral; one = one_is_neutral; absorbs = zero_absorbs }
