use Rattle.prim_bits.proofs.Exact.{middle_is_cut}
use Rattle.prim_bits.proofs.laws.bits_in_the_middle.Goals as goal

pub returns : goal.returns
returns c = middle_is_cut
