use Rattle.net_means.proofs.CircuitBits.FieldNumbers.{leaf_field}
use Rattle.net_means.proofs.circuit_bits.laws.leaves_have_fields.Goals as goal

pub returns : goal.returns
returns c = leaf_field c.facts.ensures
