use Rattle.stimulus.proofs.Unique.{one_stimulus}
use Rattle.stimulus.proofs.laws.one_stimulus.Goals as goal

pub returns : goal.returns
returns c = one_stimulus
