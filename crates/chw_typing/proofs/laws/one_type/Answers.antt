use Rattle.chw_typing.proofs.OneType.{one_type}
use Rattle.chw_typing.proofs.SameScopes.{are_same_self}
use Rattle.chw_typing.proofs.laws.one_type.Goals as goal

pub returns : goal.returns
returns c s kinds vars e t u h g d f = one_type d f h g g (are_same_self vars)
