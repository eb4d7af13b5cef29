use Rattle.net_flat.proofs.ExampleShown.{shown}
use Rattle.net_flat.proofs.examples.of_a_use.Goals as goal

pub returns : goal.returns
returns c = shown
