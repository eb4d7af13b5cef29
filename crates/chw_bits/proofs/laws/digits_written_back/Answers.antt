use Rattle.chw_bits.proofs.RoundTrips.{hex_digits-bits_of}
use Rattle.chw_bits.proofs.laws.digits_written_back.Goals as goal

pub returns : goal.returns
returns c = hex_digits-bits_of
