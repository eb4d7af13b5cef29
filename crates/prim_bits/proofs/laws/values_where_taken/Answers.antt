use Rattle.prim_bits.proofs.Taken.{value_where_taken, taken_from_value}
use Rattle.prim_bits.proofs.laws.values_where_taken.Goals as goal

pub returns : goal.returns
returns c = record { given = value_where_taken; taken = taken_from_value }
