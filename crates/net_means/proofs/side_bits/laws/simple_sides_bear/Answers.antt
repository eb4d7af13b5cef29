use Rattle.net_means.proofs.SideBits.Simple.{name_bears, literal_bears}
use Rattle.net_means.proofs.side_bits.laws.simple_sides_bear.Goals as goal

pub returns : goal.returns
returns c = record {
  name = λ x o order scope γ δ net path h n w t piece g. name_bears c.facts.ensures o order scope γ δ net path h n w t piece c.same_values.ensures c.fields_keep_same.ensures x g;
  literal = λ s bits o order scope γ δ net path h n w t piece g. literal_bears c.facts.ensures o order scope γ δ net path h n w t piece c.same_values.ensures c.fields_keep_same.ensures s bits g;
}
