use Rattle.net_means.proofs.CircuitBits.Bodies.{body_is_block}
use Rattle.net_means.proofs.circuit_bits.laws.bodies_are_blocks.Goals as goal

pub returns : goal.returns
returns c = λ ground sort scope n params e inputs p outputs no built. body_is_block params e no built
