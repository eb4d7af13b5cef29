-- What is promised of the thunks of variables.
use Rattle.carrying.specs.EnvironmentLaws.{BoundVariables, FieldVariables, GroupVariables}
use Rattle.carrying.specs.EnvironmentLaws.{OutsideAlternative, OutsideGroup, ParameterVariables}

-- facts on the thunks of variables
pub record EnvironmentFacts : Type 0 where
  -- inside a group its members, the last one first
  pub group_variables : GroupVariables
  -- and then those outside it
  pub outside_group : OutsideGroup
  -- inside a function what it is applied to, the last one first
  pub parameter_variables : ParameterVariables
  -- inside an alternative what its pattern binds
  pub bound_variables : BoundVariables
  -- and then those outside it
  pub outside_alternative : OutsideAlternative
  -- the fields of a thunk, the last one first
  pub field_variables : FieldVariables
