use Rattle.net_rules.proofs.OneFault.{not_both}
use Rattle.net_rules.proofs.well_formed.a_well_formed_net_has_no_fault.Goals as goal

pub returns : goal.returns
returns c = not_both
