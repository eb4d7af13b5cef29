use Rattle.chw_typing.proofs.TypedFound.{typed_found}
use Rattle.chw_typing.proofs.found_laws.typed_is_found.Goals as goal

pub returns : goal.returns
returns c s kinds vars e t h g d = let at = typed_found e d h g in (at.type, at.is, at.same)
