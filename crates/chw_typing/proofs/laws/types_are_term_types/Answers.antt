use Rattle.chw_typing.proofs.Kinded.{type_kinded}
use Rattle.chw_typing.proofs.laws.types_are_term_types.Goals as goal

pub returns : goal.returns
returns c s kinds vars e t h g d = type_kinded d h g
