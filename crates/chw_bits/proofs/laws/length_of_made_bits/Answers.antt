use Rattle.chw_bits.proofs.Numbers.{length-bits_of}
use Rattle.chw_bits.proofs.laws.length_of_made_bits.Goals as goal

pub returns : goal.returns
returns c = length-bits_of
