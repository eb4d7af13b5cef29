use Rattle.rest_places.proofs.Operands.{none_needs_name, operands_are_variables, call_operands_are_variables, result_is_named}
use Rattle.rest_places.proofs.laws.operands_are_variables.Goals as goal

pub returns : goal.returns
returns c = record { none = none_needs_name; core = operands_are_variables; call = call_operands_are_variables; result = result_is_named }
