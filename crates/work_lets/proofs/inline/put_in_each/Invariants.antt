use Rattle.std.proofs.Common.{◌≡◌, ◌++◌, map, take}
use Rattle.work_lets.specs.Inlined.{put_in}
use Rattle.work_lets.proofs.inline.put_in_each.Given as goal

abbrev pub invariant-loop-binding : goal.invariant-loop-binding
invariant-loop-binding l = l.group.items ≡ l.fn.group.items ++ map (put_in l.at.number l.term) (take l.binding-index l.bindings)
