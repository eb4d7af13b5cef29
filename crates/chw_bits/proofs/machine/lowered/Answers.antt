use Rattle.chw_bits.proofs.WordResults.{down_past}
use Rattle.chw_bits.proofs.machine.lowered.Goals as goal

pub returns-else-places-lt128 : goal.returns-else-places-lt128
returns-else-places-lt128 c = down_past c.args.n 128 c.args.places c.ranges.n.fits c.if-places-lt128.false
