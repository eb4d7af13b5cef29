use Rattle.std.proofs.Common.{◌≡◌, ◌++◌, map, take}
use Rattle.flow_lets.proofs.OneGroup.{exchanged_binding}
use Rattle.flow_lets.proofs.joining.with_exchanged.Given as goal

abbrev pub invariant-loop-binding : goal.invariant-loop-binding
invariant-loop-binding l = l.done.items ≡ l.fn.done.items ++ map (exchanged_binding l.first l.next) (take l.binding-index l.group)
