use Rattle.std.proofs.Common.{◌≡◌, take}
use Rattle.std.specs.List.{flat_map}
use Rattle.chw_names.specs.Twices.{parameter_name}
use Rattle.chw_names.specs.Unknowns.{within}
use Rattle.chw_resolve.proofs.binders.bind_parameters.Given as goal

abbrev pub invariant-loop-parameter : goal.invariant-loop-parameter
invariant-loop-parameter l = l.scope ≡ within (flat_map parameter_name (take l.parameter-index l.parameters)) l.initial.scope
