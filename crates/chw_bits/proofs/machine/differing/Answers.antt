use Rattle.std.proofs.lemmas.Nat.{xor_lt}
use Rattle.chw_bits.proofs.WordBits.{differing_bits}
use Rattle.chw_bits.proofs.machine.differing.Goals as goal

pub returns-clause-bits : goal.returns-clause-bits
returns-clause-bits c = λ width. differing_bits width c.args.a c.args.b

pub returns-clause-below : goal.returns-clause-below
returns-clause-below c = λ width. xor_lt width c.args.a c.args.b
