use Rattle.chw_typing.proofs.NamedParts.{element_representable, fields_representable, fields_ports}
use Rattle.chw_typing.proofs.named_laws.parts_of_named_types.Goals as goal

pub returns : goal.returns
returns c = record {
  elements = λ datas n t r. element_representable r;
  fields = λ datas d it ts f known field r. fields_representable it f known field r;
  ports = λ datas d it ts f known field p. fields_ports it f known field p;
}
