use Rattle.bit_laws.proofs.OneBit.{one_bit}
use Rattle.bit_laws.proofs.laws.one_bit_value.Goals as goal

pub returns : goal.returns
returns c = λ flat h name a b sound hold small fits v w. one_bit flat sound hold small h name a b fits v w
