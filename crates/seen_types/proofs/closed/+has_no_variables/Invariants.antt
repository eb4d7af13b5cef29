use Rattle.std.proofs.Common.{take}
use Rattle.seen_types.specs.Each.{Each}
use Rattle.seen_types.specs.Closed.{HasNoVariables}
use Rattle.seen_types.proofs.closed.+has_no_variables.Given as goal

abbrev pub invariant-loop-arg : goal.invariant-loop-arg
invariant-loop-arg l = Each HasNoVariables (take l.arg-index l.arg-items)
