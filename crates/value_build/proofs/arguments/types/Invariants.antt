-- the types so far, with those that are left, are all
use Rattle.std.proofs.Common.{◌≡◌, ◌++◌, drop}
use Rattle.value_build.specs.Arguments.{types_in}
use Rattle.value_build.proofs.arguments.types.Given as goal

abbrev pub invariant-loop-arg : goal.invariant-loop-arg
invariant-loop-arg l = l.types.items ++ types_in (drop l.arg-index l.args) ≡ types_in l.args
