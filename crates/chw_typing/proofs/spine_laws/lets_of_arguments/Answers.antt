use Rattle.chw_typing.proofs.Lets.{let_typed}
use Rattle.chw_typing.proofs.spine_laws.lets_of_arguments.Goals as goal

pub returns : goal.returns
returns c = let_typed
