use Rattle.std.proofs.Common.{refl}
use Rattle.chw_typing.proofs.FoundOnce.{one_found}
use Rattle.chw_typing.proofs.found_laws.one_found.Goals as goal

pub returns : goal.returns
returns c s kinds vars e t u d f = one_found d f refl
