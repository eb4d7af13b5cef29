use Rattle.net_built.proofs.Accumulated.{accumulator_built}
use Rattle.net_built.proofs.examples.of_programs.Goals as goal

pub returns : goal.returns
returns c = accumulator_built
