use Rattle.chw_typing.proofs.Kinded.{function_parts, function_takes, function_gives, term_type}
use Rattle.chw_typing.proofs.Heads.{functions_of_terms, of_terms_kind}
use Rattle.chw_typing.proofs.PutAgreeing.{closed_put}
use Rattle.chw_typing.proofs.FieldKinds.{field_kind}
use Rattle.rule_types.proofs.Fields.{fields_allow}
use Rattle.chw_typing.proofs.FieldsPut.{fields_like, con_like}
use Rattle.chw_typing.proofs.Patterns.{constructor_arguments}
use Rattle.net_grounds.proofs.laws.kinds_of_types.Goals as goal

pub returns : goal.returns
returns c = record {
  function_parts = function_parts;
  function_takes = function_takes;
  function_gives = function_gives;
  term_type = term_type;
  functions_of_terms = functions_of_terms;
  of_terms_kind = of_terms_kind;
  closed_put = closed_put;
  field_kind = field_kind;
  fields_allow = fields_allow;
  fields_like = fields_like;
  con_like = con_like;
  constructor_arguments = constructor_arguments;
}
