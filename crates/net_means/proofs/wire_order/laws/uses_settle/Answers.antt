use Rattle.net_means.proofs.WireOrder.Parts.{uses_settle, inputs_settle, value_uses_settle, value_inputs_settle}
use Rattle.net_means.proofs.wire_order.laws.uses_settle.Goals as goal

pub returns-clause-output : goal.returns-clause-output
returns-clause-output c = λ net path inner n k widths reads at. uses_settle net path inner n k widths reads at

pub returns-clause-input : goal.returns-clause-input
returns-clause-input c = λ net path inner front wires back drives widths k at. inputs_settle net path inner front wires back drives widths k at

pub returns-clause-value_output : goal.returns-clause-value_output
returns-clause-value_output c = λ net path inner n w reads at e. value_uses_settle net path inner n w reads at e

pub returns-clause-value_input : goal.returns-clause-value_input
returns-clause-value_input c = λ net path inner front wires back drives w at e. value_inputs_settle net path inner front wires back drives w at e
