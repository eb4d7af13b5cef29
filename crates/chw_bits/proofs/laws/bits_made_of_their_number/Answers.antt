use Rattle.chw_bits.proofs.RoundTrips.{bits_of-number_of}
use Rattle.chw_bits.proofs.Numbers.{number_of_lt}
use Rattle.chw_bits.proofs.laws.bits_made_of_their_number.Goals as goal

pub returns : goal.returns
returns c = record { same = bits_of-number_of; below = number_of_lt }
