use Rattle.std.proofs.Common.{refl}
use Rattle.chw_layout.proofs.Encodings.{encoded_same}
use Rattle.chw_layout.proofs.laws.encoding_injective.Goals as goal

pub returns : goal.returns
returns c = λ datas t v u w bits d e f. encoded_same c.length_of_made_bits.ensures c.number_of_made_bits.ensures.whole e f d refl
