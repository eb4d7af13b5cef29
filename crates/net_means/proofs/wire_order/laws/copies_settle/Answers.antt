use Rattle.net_means.proofs.WireOrder.Circuits.{copy_settles, crossing_settles, product_settles}
use Rattle.net_means.proofs.WireOrder.Projections.{projection_parts, projection_settles}
use Rattle.net_means.proofs.wire_order.laws.copies_settle.Goals as goal

pub returns-clause-name : goal.returns-clause-name
returns-clause-name c = λ o order scope net path n widths own t piece x k it g known parts.
    copy_settles c.facts.ensures c.same_values.ensures c.fields_keep_same.ensures o order scope net path n widths own t piece x k it g known parts

pub returns-clause-crossing : goal.returns-clause-crossing
returns-clause-crossing c = λ o order scope net path n widths own d e a t piece x it g known parts.
    crossing_settles c.facts.ensures c.same_values.ensures c.fields_keep_same.ensures o order scope net path n widths own t piece d e a x it g known parts

pub returns-clause-product : goal.returns-clause-product
returns-clause-product c = λ o order scope net path n widths own t piece d types xs parts i j x of it g known_con have is known parts_own within.
    product_settles c.facts.ensures c.same_values.ensures c.fields_keep_same.ensures o order scope net path n widths own t piece d types xs parts i j x of it g known_con have is known parts_own within

pub returns-clause-parts : goal.returns-clause-parts
returns-clause-parts c = λ o order scope net path n widths t piece d count x z i fields parts it place g known pattern have.
    projection_parts c.facts.ensures c.same_values.ensures c.fields_keep_same.ensures o order scope net path n widths t piece d count x z i fields parts it place g known pattern have

pub returns-clause-projection : goal.returns-clause-projection
returns-clause-projection c = λ o order scope net path n widths whole one t piece d count x z i j fields parts it place g known has_whole pattern have at within.
    projection_settles c.facts.ensures c.same_values.ensures c.fields_keep_same.ensures o order scope net path n widths t piece d count x z i fields parts it place g known pattern have whole one j has_whole at within
