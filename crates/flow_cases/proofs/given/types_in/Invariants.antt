use Rattle.std.proofs.Common.{◌≡◌, take}
use Rattle.flow_cases.specs.Given.{types_in}
use Rattle.flow_cases.proofs.given.types_in.Given as goal

abbrev pub invariant-loop-arg : goal.invariant-loop-arg
invariant-loop-arg l = l.types.items ≡ types_in (take l.arg-index l.args)
