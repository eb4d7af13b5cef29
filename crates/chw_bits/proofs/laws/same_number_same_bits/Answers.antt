use Rattle.chw_bits.proofs.RoundTrips.{same_bits}
use Rattle.chw_bits.proofs.laws.same_number_same_bits.Goals as goal

pub returns : goal.returns
returns c = same_bits
