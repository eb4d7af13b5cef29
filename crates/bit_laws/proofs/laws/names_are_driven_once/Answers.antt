use Rattle.bit_laws.proofs.Once.{driven_once}
use Rattle.bit_laws.proofs.laws.names_are_driven_once.Goals as goal

pub returns : goal.returns
returns c = λ flat sound hold small. driven_once flat sound hold small
