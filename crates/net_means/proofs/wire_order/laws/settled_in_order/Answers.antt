use Rattle.net_means.proofs.WireOrder.Ranks.{ranked}
use Rattle.net_means.proofs.wire_order.laws.settled_in_order.Goals as goal

pub returns : goal.returns
returns c = λ net flat places f ordered. ranked c.facts.ensures net flat places f ordered
