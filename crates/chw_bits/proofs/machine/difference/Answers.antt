use Rattle.chw_bits.proofs.WordResults.{difference_bits}
use Rattle.chw_bits.proofs.machine.difference.Goals as goal

pub returns-clause-bits : goal.returns-clause-bits
returns-clause-bits c = difference_bits 128 c.args.width c.args.a c.args.b c.lowest.result c.requires c.ranges.b.fits c.lowest.ensures.number
