use Rattle.chw_meaning.proofs.DesignsShown.{memory_shown}
use Rattle.chw_meaning.proofs.examples.of_memory.Goals as goal

pub returns : goal.returns
returns c = memory_shown
