use Rattle.net_means.proofs.NetBits.Sorts.{block_stays}
use Rattle.net_means.proofs.net_bits.laws.circuits_stay.Goals as goal

pub returns : goal.returns
returns c = λ d inputs path h other b at circuit. block_stays c.facts.ensures c.same_types_keep_layout.ensures.measure d inputs at circuit other
