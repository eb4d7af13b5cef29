use Rattle.chw_bits.proofs.WordResults.{sum_bits}
use Rattle.chw_bits.proofs.machine.sum.Goals as goal

pub returns-clause-bits : goal.returns-clause-bits
returns-clause-bits c = sum_bits 128 c.args.width c.args.a c.args.b c.lowest.result c.requires c.lowest.ensures.number
