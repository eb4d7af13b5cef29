use Rattle.net_means.proofs.SideBits.Sides.{side_bears}
use Rattle.net_means.proofs.side_bits.laws.sides_bear.Goals as goal

pub returns : goal.returns
returns c = λ e o order scope γ δ net path h n w t piece side calls_none g. side_bears c.facts.ensures c.same_values.ensures c.fields_keep_same.ensures o order scope γ δ net path h n w t piece side calls_none g
