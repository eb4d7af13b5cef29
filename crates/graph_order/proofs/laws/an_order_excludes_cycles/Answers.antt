use Rattle.graph_order.proofs.Exclusion.{excludes, places}
use Rattle.graph_order.proofs.laws.an_order_excludes_cycles.Goals as goal

pub returns : goal.returns
returns c graph nodes order = excludes graph (places graph nodes order)
