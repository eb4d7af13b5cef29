use Rattle.chw_bits.proofs.Numbers.{lt-pow}
use Rattle.chw_bits.proofs.WordResults.{low_past}
use Rattle.chw_bits.proofs.machine.lowest.Goals as goal

pub returns-else-width-lt128-clause-number : goal.returns-else-width-lt128-clause-number
returns-else-width-lt128-clause-number c = low_past c.args.n 128 c.args.width c.ranges.n.fits c.if-width-lt128.false

pub returns-else-width-lt128-clause-below : goal.returns-else-width-lt128-clause-below
returns-else-width-lt128-clause-below c = lt-pow c.args.n 128 c.args.width c.ranges.n.fits c.if-width-lt128.false
