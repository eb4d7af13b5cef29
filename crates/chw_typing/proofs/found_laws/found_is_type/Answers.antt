use Rattle.chw_typing.proofs.FoundTyped.{found_is_type}
use Rattle.chw_typing.proofs.found_laws.found_is_type.Goals as goal

pub returns : goal.returns
returns c s kinds vars e t d = found_is_type d
