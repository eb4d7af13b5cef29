use Rattle.chw_typing.proofs.NamedKinds.{representable_val, port_cir}
use Rattle.chw_typing.proofs.NamedParts.{not_both}
use Rattle.chw_typing.proofs.named_laws.kinds_of_named_types.Goals as goal

pub returns : goal.returns
returns c = record {
  representable = λ s t k sound has r. representable_val s sound r k has;
  port = λ s t k sound has p. port_cir s sound p.1 k has;
  both = λ datas t r p. not_both r p;
}
