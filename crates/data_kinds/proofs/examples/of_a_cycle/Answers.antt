use Rattle.data_kinds.proofs.Loops.{two_kinds}
use Rattle.data_kinds.proofs.examples.of_a_cycle.Goals as goal

pub returns : goal.returns
returns c = two_kinds
