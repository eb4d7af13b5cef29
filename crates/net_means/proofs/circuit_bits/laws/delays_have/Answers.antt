use Rattle.net_means.proofs.CircuitBits.Delays.{pure_has, register_has}
use Rattle.net_means.proofs.circuit_bits.laws.delays_have.Goals as goal

pub returns : goal.returns
returns c = record {
  constant = λ d a k o order scope γ δ net path h n widths t piece g form. pure_has c.facts.ensures o order scope γ δ net path h n widths t piece c.same_values.ensures c.fields_keep_same.ensures d a k g form;
  register = λ d a k x o order scope γ δ net path h n widths t piece g has. register_has c.facts.ensures o order scope γ δ net path h n widths t piece c.same_values.ensures c.fields_keep_same.ensures d a k x g has.0 has.1;
}
