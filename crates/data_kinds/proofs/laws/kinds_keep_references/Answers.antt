use Rattle.data_kinds.proofs.Settling.{references_stay}
use Rattle.data_kinds.proofs.laws.kinds_keep_references.Goals as goal

pub returns : goal.returns
returns c = references_stay
