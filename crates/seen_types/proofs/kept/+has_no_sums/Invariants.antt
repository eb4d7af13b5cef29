use Rattle.std.proofs.Common.{take}
use Rattle.seen_types.specs.Each.{Each}
use Rattle.seen_types.specs.Keeping.{HasNoSums}
use Rattle.seen_types.proofs.kept.+has_no_sums.Given as goal

abbrev pub invariant-loop-arg : goal.invariant-loop-arg
invariant-loop-arg l = Each HasNoSums (take l.arg-index l.arg-items)
