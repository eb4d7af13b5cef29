use Rattle.chw_prims.proofs.All.{distinct}
use Rattle.chw_prims.proofs.name_laws.names_are_distinct.Goals as goal

pub returns : goal.returns
returns c = distinct
