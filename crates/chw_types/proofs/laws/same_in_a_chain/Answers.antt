use Rattle.chw_types.proofs.SameLaws.{same_through}
use Rattle.chw_types.proofs.laws.same_in_a_chain.Goals as goal

pub returns : goal.returns
returns c t u v h g = same_through h g
