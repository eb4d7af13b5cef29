use Rattle.std.proofs.Common.{◌≡◌, map, take}
use Rattle.chw_resolve.specs.Programs.{parameter_kind}
use Rattle.chw_resolve.proofs.declarations.kinds_in.Given as goal

abbrev pub invariant-loop-parameter : goal.invariant-loop-parameter
invariant-loop-parameter l = l.kinds.items ≡ map parameter_kind (take l.parameter-index l.parameters)
