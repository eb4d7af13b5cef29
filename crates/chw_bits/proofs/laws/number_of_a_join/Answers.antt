use Rattle.chw_bits.proofs.Numbers.{number_of-append}
use Rattle.chw_bits.proofs.laws.number_of_a_join.Goals as goal

pub returns : goal.returns
returns c = number_of-append
