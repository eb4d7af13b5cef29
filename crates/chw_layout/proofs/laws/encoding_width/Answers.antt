use Rattle.chw_layout.proofs.Encodings.{encoded_length}
use Rattle.chw_layout.proofs.laws.encoding_width.Goals as goal

pub returns : goal.returns
returns c = λ datas t v w bits d e. encoded_length c.length_of_made_bits.ensures e d
