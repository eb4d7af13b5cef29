use Rattle.share_laws.proofs.ExamplesShown.{copy_goes}
use Rattle.share_laws.proofs.examples.of_a_copy.Goals as goal

pub returns : goal.returns
returns c = copy_goes
