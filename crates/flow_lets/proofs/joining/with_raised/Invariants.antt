use Rattle.std.proofs.Common.{◌≡◌, ◌++◌, map, take}
use Rattle.flow_lets.specs.Moves.{raised_side}
use Rattle.flow_lets.proofs.joining.with_raised.Given as goal

abbrev pub invariant-loop-binding : goal.invariant-loop-binding
invariant-loop-binding l = l.done.items ≡ l.fn.done.items ++ map (raised_side l.from.number l.by) (take l.binding-index l.group)
