use Rattle.chw_types.proofs.SameLaws.{same_self}
use Rattle.chw_types.proofs.laws.same_as_itself.Goals as goal

pub returns : goal.returns
returns c t = same_self t
