use Rattle.net_means.proofs.SideBits.Elements.{get_side, at_side}
use Rattle.net_means.proofs.side_bits.laws.element_sides_bear.Goals as goal

pub returns : goal.returns
returns c = record {
  number = λ i m a x o order scope γ δ net path h n w t piece g. get_side c.facts.ensures o order scope γ δ net path h c.same_values.ensures c.fields_keep_same.ensures n w t piece i m a x g;
  index = λ m k a x y o order scope γ δ net path h n w t piece g. at_side c.facts.ensures o order scope γ δ net path h c.same_values.ensures c.fields_keep_same.ensures n w t piece m k a x y g;
}
