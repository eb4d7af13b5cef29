use Rattle.bit_laws.proofs.Cells.{wiring_bits}
use Rattle.bit_laws.proofs.laws.bits_of_wiring.Goals as goal

pub returns : goal.returns
returns c = λ flat h cell sound has kind. wiring_bits flat h sound cell has kind
