use Rattle.std.proofs.Common.{◌≡◌, map, take}
use Rattle.chw_typing.specs.WithoutZeros.{without_zeros}
use Rattle.chw_typing.proofs.leaving.+leave.Given as goal

abbrev pub invariant-loop-arg : goal.invariant-loop-arg
invariant-loop-arg l = l.done.items ≡ map without_zeros (take l.arg-index l.arg-items)
