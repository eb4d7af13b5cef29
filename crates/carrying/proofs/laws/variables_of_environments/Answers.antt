use Rattle.carrying.proofs.Environments.{group_variables, outside_group, parameter_variables, outside_function, bound_variables, outside_alternative, field_variables, outside_fields}
use Rattle.carrying.proofs.laws.variables_of_environments.Goals as goal

pub returns : goal.returns
returns c = record {
  members = group_variables;
  outside_group = outside_group;
  parameters = parameter_variables;
  outside_function = outside_function;
  bound = bound_variables;
  outside_alternative = outside_alternative;
  fields = field_variables;
  outside_fields = outside_fields;
}
