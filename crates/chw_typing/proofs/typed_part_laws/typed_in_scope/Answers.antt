use Rattle.chw_typing.proofs.InScope.{in_scope}
use Rattle.chw_typing.proofs.typed_part_laws.typed_in_scope.Goals as goal

pub returns : goal.returns
returns c s kinds vars e t x d h = in_scope d x h
