use Rattle.chw_layout.proofs.Zeros.{zero_there}
use Rattle.chw_layout.proofs.laws.zero_value.Goals as goal

pub returns : goal.returns
returns c = λ datas t w some d. zero_there datas t w c.bits_made_of_their_number.ensures.same some d
