use Rattle.net_rules.proofs.OneFault.{one_fault}
use Rattle.net_rules.proofs.well_formed.a_net_has_one_fault.Goals as goal

pub returns : goal.returns
returns c = one_fault
