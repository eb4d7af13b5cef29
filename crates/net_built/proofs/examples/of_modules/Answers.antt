use Rattle.net_built.proofs.Shown.{postorder}
use Rattle.net_built.proofs.examples.of_modules.Goals as goal

pub returns : goal.returns
returns c = postorder
