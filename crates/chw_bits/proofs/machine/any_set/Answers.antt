use Rattle.chw_bits.proofs.WordBits.{any_bits_of}
use Rattle.chw_bits.proofs.machine.any_set.Goals as goal

pub returns : goal.returns
returns c = λ width below. any_bits_of width c.args.a below
