use Rattle.net_means.proofs.SideBits.NoMade.{holds_no_made}
use Rattle.net_means.proofs.side_bits.laws.sides_hold_no_made.Goals as goal

pub returns : goal.returns
returns c = λ o vars e side no_call no_case. holds_no_made side no_call no_case
