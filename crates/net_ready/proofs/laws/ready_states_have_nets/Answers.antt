use Rattle.net_ready.proofs.ModulesThere.{net_there}
use Rattle.net_ready.proofs.laws.ready_states_have_nets.Goals as goal

pub returns : goal.returns
returns c = λ p state ready. net_there p state ready
