use Rattle.net_means.proofs.CircuitBits.Follow.{group_follows, member_follows, call_follows, lift_follows}
use Rattle.net_means.proofs.CircuitBits.Names.{variable_has_all}
use Rattle.net_means.proofs.circuit_bits.laws.thunks_follow.Goals as goal

pub returns : goal.returns
returns c = record {
  variable = λ p h x th γ δ there. variable_has_all there;
  group = group_follows c.facts.ensures;
  member = member_follows c.facts.ensures;
  call = call_follows c.facts.ensures;
  lift = lift_follows c.facts.ensures;
}
