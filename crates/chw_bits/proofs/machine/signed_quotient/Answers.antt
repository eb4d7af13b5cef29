use Rattle.std.proofs.Common.{arith}
use Rattle.chw_bits.proofs.WordResults.{lowered_is}
use Rattle.chw_bits.proofs.machine.signed_quotient.Goals as goal

pub returns : goal.returns
returns c = lowered_is c.args.n c.args.places c.min.result c.ranges.n (λ l. omega arith) (λ g. omega arith)
