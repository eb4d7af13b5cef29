use Rattle.bit_laws.proofs.Cells.{comparison_bits}
use Rattle.bit_laws.proofs.laws.bits_of_comparisons.Goals as goal

pub returns : goal.returns
returns c = λ flat h cell sound has kind. comparison_bits flat h sound cell has kind
