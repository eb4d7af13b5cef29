use Rattle.net_grounds.proofs.laws.thunks_of_variables.Goals as goal

pub returns : goal.returns
returns c = record {
  group_variables = c.variables_of_environments.ensures.members;
  outside_group = c.variables_of_environments.ensures.outside_group;
  parameter_variables = c.variables_of_environments.ensures.parameters;
  bound_variables = c.variables_of_environments.ensures.bound;
  outside_alternative = c.variables_of_environments.ensures.outside_alternative;
  field_variables = c.variables_of_environments.ensures.fields;
}
