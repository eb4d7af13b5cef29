use Rattle.net_means.proofs.WireOrder.Sides.{side_settles}
use Rattle.net_means.proofs.wire_order.laws.sides_settle.Goals as goal

pub returns : goal.returns
returns c = λ e o order scope net path n w t piece x it side calls_none g l known. side_settles c.facts.ensures c.same_values.ensures o order scope net path n w t piece x it known side calls_none g l
