use Rattle.bit_laws.proofs.Kept.{rams_keep}
use Rattle.bit_laws.proofs.laws.bits_of_rams.Goals as goal

pub returns : goal.returns
returns c = λ flat h w domain words inputs sound no_loop fits has kept. rams_keep flat sound no_loop h w domain words inputs fits has kept
