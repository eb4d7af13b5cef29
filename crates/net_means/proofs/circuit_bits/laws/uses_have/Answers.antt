use Rattle.net_means.proofs.CircuitBits.Uses.{call_has, lift_has}
use Rattle.net_means.proofs.circuit_bits.laws.uses_have.Goals as goal

pub returns : goal.returns
returns c = record {
  call = λ p net path h params e xs γ δ t u n widths reads inner k at sound like parts same has. call_has c.facts.ensures p net h c.same_values.ensures c.fields_keep_same.ensures sound path params e xs γ δ t u n widths reads inner k at like parts same has;
  lift = λ p net path h params e f xs γ δ d t u n widths reads inner at sound like parts lift same has. lift_has c.facts.ensures p net h c.same_values.ensures c.fields_keep_same.ensures sound path params e f xs γ δ d t u n widths reads inner at like parts lift same has;
}
