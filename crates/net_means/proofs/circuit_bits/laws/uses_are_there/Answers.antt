use Rattle.net_means.proofs.CircuitBits.Uses.{use_there, part_enters}
use Rattle.net_means.proofs.circuit_bits.laws.uses_are_there.Goals as goal

pub returns : goal.returns
returns c = record { place = use_there; enters = part_enters }
