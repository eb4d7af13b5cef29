use Rattle.net_means.proofs.CircuitBits.Follow.{whole_call, whole_lift}
use Rattle.net_means.proofs.circuit_bits.laws.wholes_are_calls.Goals as goal

pub returns : goal.returns
returns c = record { call = whole_call; lift = whole_lift }
