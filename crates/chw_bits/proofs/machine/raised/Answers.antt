use Rattle.chw_bits.proofs.WordResults.{up_past}
use Rattle.chw_bits.proofs.machine.raised.Goals as goal

pub returns-else-places-lt128 : goal.returns-else-places-lt128
returns-else-places-lt128 c = up_past c.args.n 128 c.args.places c.if-places-lt128.false
