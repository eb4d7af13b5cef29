use Rattle.std.proofs.Common.{◌≡◌, take}
use Rattle.rewriting.specs.Shapes.{shift_args}
use Rattle.work_operands.proofs.arguments.args_under.Given as goal

abbrev pub invariant-loop-arg : goal.invariant-loop-arg
invariant-loop-arg l = l.made.items ≡ shift_args (take l.arg-index l.args) 0 1
