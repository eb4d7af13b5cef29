use Rattle.share_laws.proofs.DeadShown.{copied_cell_stays}
use Rattle.share_laws.proofs.examples.of_an_early_copy.Goals as goal

pub returns : goal.returns
returns c = copied_cell_stays
