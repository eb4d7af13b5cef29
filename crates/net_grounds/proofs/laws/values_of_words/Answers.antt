use Rattle.prim_bits.proofs.ResultWidths.{width_of_value}
use Rattle.prim_bits.proofs.Taken.{value_where_taken}
use Rattle.net_grounds.proofs.laws.values_of_words.Goals as goal

pub returns : goal.returns
returns c = record {
  width_of_value = width_of_value;
  value_where_taken = value_where_taken;
}
