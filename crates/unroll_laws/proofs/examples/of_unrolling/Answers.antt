use Rattle.unroll_laws.proofs.Shown.{two_from_one}
use Rattle.unroll_laws.proofs.examples.of_unrolling.Goals as goal

pub returns : goal.returns
returns c = two_from_one
