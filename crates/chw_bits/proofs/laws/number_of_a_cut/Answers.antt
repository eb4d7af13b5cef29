use Rattle.chw_bits.proofs.RoundTrips.{length-cut_of, number_of-cut_of}
use Rattle.chw_bits.proofs.laws.number_of_a_cut.Goals as goal

pub returns : goal.returns
returns c = record { count = length-cut_of; number = number_of-cut_of }
