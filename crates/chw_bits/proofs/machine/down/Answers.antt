use Rattle.chw_bits.proofs.WordResults.{down_bits}
use Rattle.chw_bits.proofs.machine.down.Goals as goal

pub returns-clause-bits : goal.returns-clause-bits
returns-clause-bits c = λ width below. down_bits width c.args.a c.args.places c.lowered.result below c.lowered.ensures
