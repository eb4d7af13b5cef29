use Rattle.carrying.proofs.Data.{same_con, shown_tag}
use Rattle.carrying.proofs.laws.tags_show.Goals as goal

pub returns : goal.returns
returns c = record {
  there = λ p d ts th h b wide s. shown_tag wide s;
  tells = λ datas n d it other at held of tags. same_con datas n d it other c.number_of_made_bits.ensures.whole at held of tags;
}
