use Rattle.chw_typing.proofs.GroupParts.{reached_is_binding}
use Rattle.chw_typing.proofs.group_laws.reached_bindings.Goals as goal

pub returns : goal.returns
returns c = reached_is_binding
