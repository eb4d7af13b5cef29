use Rattle.bit_laws.proofs.Cells.{logic_bits}
use Rattle.bit_laws.proofs.laws.bits_of_logic.Goals as goal

pub returns : goal.returns
returns c = λ flat h cell sound has kind. logic_bits flat h sound cell has kind
