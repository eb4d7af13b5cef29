use Rattle.std.proofs.Common.{◌%◌, eqb, ap}
use Rattle.chw_bits.proofs.WordBits.{count_bits_of}
use Rattle.chw_bits.proofs.machine.odd_set.Goals as goal

pub returns : goal.returns
returns c = λ width below. ap (λ n. eqb (n % 2) 1) (count_bits_of width c.args.a below)
