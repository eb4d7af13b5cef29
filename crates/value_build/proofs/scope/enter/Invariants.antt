-- the variables so far, with those that are left, are all
use Rattle.std.proofs.Common.{◌≡◌, ◌++◌, drop}
use Rattle.value_build.specs.Groups.{bound_of}
use Rattle.value_build.specs.InScope.{as_variables}
use Rattle.value_build.proofs.scope.enter.Given as goal

abbrev pub invariant-loop-i : goal.invariant-loop-i
invariant-loop-i l =
    as_variables l.scope.items ++ bound_of (drop l.i l.bindings) (drop l.i l.wires)
    ≡ as_variables l.initial.scope.items ++ bound_of l.bindings l.wires
