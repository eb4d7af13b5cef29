use Rattle.std.proofs.Common.{take}
use Rattle.std.specs.List.{flat_map}
use Rattle.chw_names.specs.Twices.{parameter_name}
use Rattle.chw_names.specs.Words.{Declares}
use Rattle.chw_names.proofs.twices.declare_parameters.Given as goal

abbrev pub invariant-loop-parameter : goal.invariant-loop-parameter
invariant-loop-parameter l = Declares l.initial.names l.names l.initial.least l.least (flat_map parameter_name (take l.parameter-index l.parameters))
