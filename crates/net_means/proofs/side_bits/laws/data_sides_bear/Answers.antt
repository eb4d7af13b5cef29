use Rattle.net_means.proofs.SideBits.Constructors.{constructor_side}
use Rattle.net_means.proofs.SideBits.Vectors.{vector_side}
use Rattle.net_means.proofs.side_bits.laws.data_sides_bear.Goals as goal

pub returns : goal.returns
returns c = record {
  vector = λ u xs o order scope γ δ net path h n w t piece g. vector_side c.facts.ensures o order scope γ δ net path h c.same_values.ensures c.fields_keep_same.ensures n w t piece u xs g;
  constructor = λ k types xs o order scope γ δ net path h n w t piece g. constructor_side c.facts.ensures o order scope γ δ net path h c.same_values.ensures c.fields_keep_same.ensures n w t piece k types xs g;
}
