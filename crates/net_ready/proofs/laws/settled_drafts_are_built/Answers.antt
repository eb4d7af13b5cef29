use Rattle.net_ready.proofs.Settled.{built_once_settled}
use Rattle.net_ready.proofs.laws.settled_drafts_are_built.Goals as goal

pub returns : goal.returns
returns c = λ ground known found scope n e p wires draft same. built_once_settled draft same
