use Rattle.prim_bits.proofs.ResultWidths.{width_of_value}
use Rattle.prim_bits.proofs.laws.width_of_a_value.Goals as goal

pub returns : goal.returns
returns c = width_of_value
