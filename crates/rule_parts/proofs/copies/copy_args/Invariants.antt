use Rattle.std.proofs.Common.{◌≡◌, take}
use Rattle.rule_parts.proofs.copies.copy_args.Given as goal

abbrev pub invariant-loop-arg : goal.invariant-loop-arg
invariant-loop-arg l = l.done.items ≡ take l.arg-index l.args
