-- the variables so far, with those that are left, are all
use Rattle.std.proofs.Common.{◌≡◌, ◌++◌, drop}
use Rattle.net_built.specs.Data.{variables_from}
use Rattle.value_build.specs.InScope.{as_variables}
use Rattle.value_build.proofs.fields.enter_fields.Given as goal

abbrev pub invariant-loop-i : goal.invariant-loop-i
invariant-loop-i l =
    as_variables l.scope.items ++ variables_from l.number (drop l.i l.types) (drop l.i l.widths)
    ≡ as_variables l.initial.scope.items ++ variables_from l.first l.types l.widths
