-- the wires so far, with those that are left, are all
use Rattle.std.proofs.Common.{◌≡◌, ◌++◌, drop}
use Rattle.net_built.specs.Terms.{wires_of_all}
use Rattle.value_build.specs.InScope.{in_scope}
use Rattle.value_build.proofs.arguments.element_wires.Given as goal

abbrev pub invariant-loop-e : goal.invariant-loop-e
invariant-loop-e l =
    l.wires.items ++ wires_of_all (in_scope l.scope) (drop l.e-index l.elements)
    ≡ wires_of_all (in_scope l.scope) l.elements
