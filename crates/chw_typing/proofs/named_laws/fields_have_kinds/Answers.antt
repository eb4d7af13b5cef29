use Rattle.chw_typing.proofs.FieldKinds.{field_kind}
use Rattle.chw_typing.proofs.named_laws.fields_have_kinds.Goals as goal

pub returns : goal.returns
returns c = λ s d it ts f sound known field kinds. field_kind s sound d it ts f known field kinds
