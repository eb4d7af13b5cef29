use Rattle.chw_types.proofs.SameLaws.{same_turned, same_through}
use Rattle.type_laws.proofs.SameForms.{as_domain, as_scalar, as_vector, as_data, as_function, as_signal}
use Rattle.chw_typing.proofs.FieldsPut.{same_count}
use Rattle.chw_typing.proofs.EvaluatedTypes.{same_evaluated}
use Rattle.net_grounds.proofs.laws.types_that_are_the_same.Goals as goal

pub returns : goal.returns
returns c = record {
  same_self = c.same_as_itself.ensures;
  same_turned = same_turned;
  same_through = same_through;
  as_domain = as_domain;
  as_scalar = as_scalar;
  as_vector = as_vector;
  as_data = as_data;
  as_function = as_function;
  as_signal = as_signal;
  same_count = same_count;
  same_evaluated = same_evaluated;
}
