use Rattle.bit_laws.proofs.Cells.{reduction_bits}
use Rattle.bit_laws.proofs.laws.bits_of_reductions.Goals as goal

pub returns : goal.returns
returns c = λ flat h cell sound has kind. reduction_bits flat h sound cell has kind
