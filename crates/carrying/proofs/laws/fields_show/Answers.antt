use Rattle.carrying.proofs.Data.{field_shows, fields_carry}
use Rattle.carrying.proofs.laws.fields_show.Goals as goal

pub returns : goal.returns
returns c = record {
  one = λ p n it ts th h b parts i j t part at s tag ps e f l. field_shows p n it ts th h b parts i j t part c.number_of_made_bits.ensures.whole at s tag ps e f l;
  all = λ p n it ts th b parts at s tag ps. fields_carry p n it ts th b parts c.number_of_made_bits.ensures.whole at s tag ps;
}
