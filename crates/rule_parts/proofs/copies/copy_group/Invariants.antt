use Rattle.std.proofs.Common.{◌≡◌, take}
use Rattle.rule_parts.proofs.copies.copy_group.Given as goal

abbrev pub invariant-loop-binding : goal.invariant-loop-binding
invariant-loop-binding l = l.done.items ≡ take l.binding-index l.group
