use Rattle.net_means.proofs.CircuitBits.Products.{product_has}
use Rattle.net_means.proofs.CircuitBits.Projections.{projection_has}
use Rattle.net_means.proofs.circuit_bits.laws.products_have.Goals as goal

pub returns : goal.returns
returns c = record {
  product = λ k types xs parts i j o order scope γ δ net path h n widths t piece g f. product_has c.facts.ensures o order scope γ δ net path h n widths t piece c.same_values.ensures c.fields_keep_same.ensures k types xs parts i j g f;
  projection = λ k count x z i j parts place o order scope γ δ net path h n widths t piece g f. projection_has c.facts.ensures o order scope γ δ net path h n widths t piece c.same_values.ensures c.fields_keep_same.ensures k count x z i j parts place g f;
}
