use Rattle.net_there.proofs.States.{state_ready}
use Rattle.net_there.proofs.laws.states_are_ready.Goals as goal

pub returns : goal.returns
returns c = λ p state entry normal acyclic. state_ready c.modules_are_ready.ensures c.ports_are_there.ensures p state entry normal acyclic
