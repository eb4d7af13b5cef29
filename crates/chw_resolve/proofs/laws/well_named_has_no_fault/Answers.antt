use Rattle.chw_resolve.proofs.NoFault.{no_fault}
use Rattle.chw_resolve.proofs.laws.well_named_has_no_fault.Goals as goal

pub returns : goal.returns
returns c = λ tree fault. no_fault tree
