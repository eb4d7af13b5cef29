use Rattle.bit_laws.proofs.WideCells.{shift_bits}
use Rattle.bit_laws.proofs.laws.bits_of_shifts.Goals as goal

pub returns : goal.returns
returns c = λ flat h cell sound has kind. shift_bits flat h sound cell has kind
