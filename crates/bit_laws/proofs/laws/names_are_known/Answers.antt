use Rattle.bit_laws.proofs.Names.{knows_names}
use Rattle.bit_laws.proofs.laws.names_are_known.Goals as goal

pub returns : goal.returns
returns c = λ flat sound. knows_names flat sound
