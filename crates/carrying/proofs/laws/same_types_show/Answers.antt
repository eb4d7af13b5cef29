use Rattle.carrying.proofs.Same.{held_same, shown_same}
use Rattle.carrying.proofs.laws.same_types_show.Goals as goal

pub returns : goal.returns
returns c = record {
  held = λ p t u v b sound l s. held_same p sound c.same_values.ensures c.fields_keep_same.ensures s l;
  shown = λ p t u th h b sound l s. shown_same p sound c.same_values.ensures c.fields_keep_same.ensures s l;
}
