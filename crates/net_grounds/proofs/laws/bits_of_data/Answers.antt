use Rattle.carrying.proofs.Data.{fields_carried, is_built}
use Rattle.carrying.proofs.Widths.{fields_length}
use Rattle.net_grounds.proofs.laws.bits_of_data.Goals as goal

pub returns : goal.returns
returns c = record {
  constructor_carries = c.constructors_carry.ensures;
  field_shows = c.fields_show.ensures.one;
  fields_carried = fields_carried;
  is_built = λ p i d it ts v x at of held tag. let y = is_built p i d it ts v x c.number_of_made_bits.ensures.whole at of held tag in record { ths = y.ths; is = y.is; many = y.many; bits = y.bits; more = y.more; rest = y.rest; fields = y.fields };
  fields_length = fields_length;
}
