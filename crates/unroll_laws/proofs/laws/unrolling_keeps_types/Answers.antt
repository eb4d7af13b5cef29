use Rattle.unroll_laws.proofs.Unrolls.{unrolling_keeps}
use Rattle.unroll_laws.proofs.laws.unrolling_keeps_types.Goals as goal

pub returns : goal.returns
returns c = unrolling_keeps
