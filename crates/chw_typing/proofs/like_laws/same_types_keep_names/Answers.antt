use Rattle.chw_typing.proofs.SameNames.{representable_same, leaves_same}
use Rattle.chw_typing.proofs.like_laws.same_types_keep_names.Goals as goal

pub returns : goal.returns
returns c = record {
  representable = λ s t u sound l h. representable_same s sound c.fields_keep_same.ensures h l;
  leaves = λ s t u ls sound l h. leaves_same s sound c.fields_keep_same.ensures h l;
}
