use Rattle.std.proofs.Common.{◌≡◌, Some, drop}
use Rattle.call_types.specs.CallTypes.{given_by_each}
use Rattle.call_types.proofs.calls.behind.Given as goal

abbrev pub invariant-loop-arg : goal.invariant-loop-arg
invariant-loop-arg l = given_by_each (Some l.ty) l.args ≡ given_by_each (Some l.left) (drop l.arg-index l.args)
