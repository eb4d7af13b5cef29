use Rattle.net_means.proofs.CircuitBits.Example.{accumulator_has}
use Rattle.net_means.proofs.circuit_bits.examples.of_accumulator.Goals as goal

pub returns : goal.returns
returns c = accumulator_has c.facts.ensures
