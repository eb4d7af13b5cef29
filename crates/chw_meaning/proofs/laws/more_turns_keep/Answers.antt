use Rattle.std.proofs.Common.{arith}
use Rattle.chw_meaning.proofs.laws.more_turns_keep.Goals as goal

pub returns : goal.returns
returns c = λ p e γ δ h v m n le q. (q.0, omega (arith, q.1), q.2)
