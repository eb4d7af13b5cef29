use Rattle.net_means.proofs.SideBits.Words.{word_side}
use Rattle.net_means.proofs.side_bits.laws.primitive_sides_bear.Goals as goal

pub returns : goal.returns
returns c = λ q types xs on count o order scope γ δ net path h n w t piece g. word_side c.facts.ensures o order scope γ δ net path h c.same_values.ensures c.fields_keep_same.ensures n w t piece q types xs on count g
