use Rattle.net_means.proofs.CircuitBits.Delays.{crossing_has}
use Rattle.net_means.proofs.CircuitBits.Names.{name_has}
use Rattle.net_means.proofs.circuit_bits.laws.copies_have.Goals as goal

pub returns : goal.returns
returns c = record {
  name = λ x k o order scope γ δ net path h n widths t piece g v. name_has c.facts.ensures o order scope γ δ net path h n widths t piece c.same_values.ensures c.fields_keep_same.ensures x k g v;
  crossing = λ d e a x o order scope γ δ net path h n widths t piece g v. crossing_has c.facts.ensures o order scope γ δ net path h n widths t piece c.same_values.ensures c.fields_keep_same.ensures d e a x g v;
}
