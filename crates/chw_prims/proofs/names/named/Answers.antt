use Rattle.chw_prims.proofs.All.{none_of_all}
use Rattle.chw_prims.proofs.names.named.Goals as goal

pub returns-clause-unknown : goal.returns-clause-unknown
returns-clause-unknown c = none_of_all c.first_named.result c.args.sought.now c.first_named.ensures.unknown
