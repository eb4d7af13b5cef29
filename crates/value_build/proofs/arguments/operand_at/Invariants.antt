-- the operand is found among the arguments that are left
use Rattle.std.proofs.Common.{◌≡◌, drop}
use Rattle.net_built.specs.Bodies.{operand_at}
use Rattle.value_build.specs.Arguments.{terms_in}
use Rattle.value_build.specs.InScope.{in_scope}
use Rattle.value_build.proofs.arguments.operand_at.Given as goal

abbrev pub invariant-loop-arg : goal.invariant-loop-arg
invariant-loop-arg l =
    operand_at (in_scope l.scope) (terms_in l.args) l.number
    ≡ operand_at (in_scope l.scope) (terms_in (drop l.arg-index l.args)) l.left
