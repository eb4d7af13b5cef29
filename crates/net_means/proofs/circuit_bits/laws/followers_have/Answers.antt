use Rattle.net_means.proofs.CircuitBits.Uses.{follower_has}
use Rattle.net_means.proofs.circuit_bits.laws.followers_have.Goals as goal

pub returns : goal.returns
returns c = λ p net path h t u on th wires k sound like all has. follower_has c.facts.ensures p net h c.same_values.ensures c.fields_keep_same.ensures sound path t u on th wires k like all has
