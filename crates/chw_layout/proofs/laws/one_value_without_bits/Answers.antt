use Rattle.chw_layout.proofs.Zeros.{one_value}
use Rattle.chw_layout.proofs.laws.one_value_without_bits.Goals as goal

pub returns : goal.returns
returns c = λ datas t some d. one_value datas t c.bits_made_of_their_number.ensures.same c.length_of_made_bits.ensures c.number_of_made_bits.ensures.whole some d
