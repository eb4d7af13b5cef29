use Rattle.net_means.proofs.WireOrder.Elements.{get_settles, at_settles}
use Rattle.net_means.proofs.wire_order.laws.element_sides_settle.Goals as goal

pub returns-clause-number : goal.returns-clause-number
returns-clause-number c = λ i m a y o order scope net path n w t piece x it g l known. get_settles c.facts.ensures c.same_values.ensures o order scope net path n w t piece i m a y x it g l known

pub returns-clause-index : goal.returns-clause-index
returns-clause-index c = λ m k a y z o order scope net path n w t piece x it g l known. at_settles c.facts.ensures c.same_values.ensures o order scope net path n w t piece m k a y z x it g l known
