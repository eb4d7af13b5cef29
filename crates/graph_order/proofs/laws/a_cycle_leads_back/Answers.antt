use Rattle.graph_order.proofs.Exclusion.{leads_back}
use Rattle.graph_order.proofs.laws.a_cycle_leads_back.Goals as goal

pub returns : goal.returns
returns c = leads_back
