use Rattle.chw_bits.proofs.WordBits.{both_bits}
use Rattle.chw_bits.proofs.machine.both.Goals as goal

pub returns-clause-bits : goal.returns-clause-bits
returns-clause-bits c = λ width. both_bits width c.args.a c.args.b
