use Rattle.carrying.proofs.Encoded.{encoded_parts}
use Rattle.carrying.proofs.laws.encodings_have_parts.Goals as goal

pub returns : goal.returns
returns c datas d n ts vs b e = encoded_parts e
