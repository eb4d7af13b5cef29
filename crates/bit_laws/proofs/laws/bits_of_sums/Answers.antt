use Rattle.bit_laws.proofs.Cells.{sum_bits}
use Rattle.bit_laws.proofs.laws.bits_of_sums.Goals as goal

pub returns : goal.returns
returns c = λ flat h cell sound has kind. sum_bits flat h sound cell has kind
