use Rattle.layout_laws.proofs.SameLayout.{measured_same, value_same, encoding_same, zero_same}
use Rattle.layout_laws.proofs.laws.same_types_keep_layout.Goals as goal

pub returns : goal.returns
returns c = record {
  measure = λ m s t u sound l h. measured_same s sound c.same_values.ensures c.fields_keep_same.ensures h l;
  values = λ v s t u sound l h. value_same s sound c.same_values.ensures c.fields_keep_same.ensures h l;
  encodings = λ v bits s t u sound l h. encoding_same s sound c.same_values.ensures c.fields_keep_same.ensures h l;
  zeros = λ z s t u sound l h. zero_same s sound c.same_values.ensures c.fields_keep_same.ensures h l;
}
