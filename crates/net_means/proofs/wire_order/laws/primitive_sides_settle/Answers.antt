use Rattle.net_means.proofs.WireOrder.WordSides.{word_settles}
use Rattle.net_means.proofs.wire_order.laws.primitive_sides_settle.Goals as goal

pub returns : goal.returns
returns c = λ q types xs on count o order scope net path n w t piece x it g l known. word_settles c.facts.ensures c.same_values.ensures o order scope net path n w t piece q types xs x it on count g l known
