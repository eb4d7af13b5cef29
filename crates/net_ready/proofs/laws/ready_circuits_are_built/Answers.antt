use Rattle.net_ready.proofs.ReadyCircuits.{block_there}
use Rattle.net_ready.proofs.laws.ready_circuits_are_built.Goals as goal
use Rattle.std.proofs.Common.{refl}

pub returns : goal.returns
returns c = λ ground scope n e ready. block_there ground ready scope n refl
