use Rattle.net_means.proofs.CircuitBits.Bodies.{empty_leaf}
use Rattle.net_means.proofs.circuit_bits.laws.empty_leaves_have.Goals as goal

pub returns : goal.returns
returns c = empty_leaf c.facts.ensures
