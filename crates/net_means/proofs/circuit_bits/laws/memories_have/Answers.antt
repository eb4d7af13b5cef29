use Rattle.net_means.proofs.CircuitBits.MemorySides.{memory_has}
use Rattle.net_means.proofs.circuit_bits.laws.memories_have.Goals as goal

pub returns : goal.returns
returns c d m k a e x y o order scope γ δ net path h n widths t piece given takes = memory_has c.facts.ensures o order scope γ δ net path h n widths t piece c.same_values.ensures c.fields_keep_same.ensures c.zero_exists.ensures.of_width d x y m k a e given takes
