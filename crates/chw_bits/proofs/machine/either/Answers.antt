use Rattle.std.proofs.lemmas.Nat.{or_lt}
use Rattle.chw_bits.proofs.WordBits.{either_bits}
use Rattle.chw_bits.proofs.machine.either.Goals as goal

pub returns-clause-bits : goal.returns-clause-bits
returns-clause-bits c = λ width. either_bits width c.args.a c.args.b

pub returns-clause-below : goal.returns-clause-below
returns-clause-below c = λ width. or_lt width c.args.a c.args.b
