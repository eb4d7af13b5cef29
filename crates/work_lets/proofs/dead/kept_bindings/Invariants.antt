use Rattle.std.proofs.Common.{◌≡◌, take}
use Rattle.work_lets.specs.Kept.{kept_of}
use Rattle.work_lets.proofs.dead.kept_bindings.Given as goal

abbrev pub invariant-loop-n : goal.invariant-loop-n
invariant-loop-n l = l.group.items ≡ kept_of l.closing (take l.n l.marks) (take l.n l.bindings)
