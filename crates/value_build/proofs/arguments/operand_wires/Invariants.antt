-- the wires so far, with those that are left, are all
use Rattle.std.proofs.Common.{◌≡◌, ◌++◌, drop}
use Rattle.net_built.specs.Terms.{wires_of_all}
use Rattle.value_build.specs.Arguments.{terms_in}
use Rattle.value_build.specs.InScope.{in_scope}
use Rattle.value_build.proofs.arguments.operand_wires.Given as goal

abbrev pub invariant-loop-arg : goal.invariant-loop-arg
invariant-loop-arg l =
    l.wires.items ++ wires_of_all (in_scope l.scope) (terms_in (drop l.arg-index l.args))
    ≡ wires_of_all (in_scope l.scope) (terms_in l.args)
