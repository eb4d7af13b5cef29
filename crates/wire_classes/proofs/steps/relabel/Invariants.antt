-- the labels so far, and the others as they were
use Rattle.std.proofs.Common.{◌≡◌, ◌++◌, drop, map, take}
use Rattle.wire_classes.specs.Steps.{relabelled}
use Rattle.wire_classes.proofs.steps.relabel.Given as goal

abbrev pub invariant-loop-w : goal.invariant-loop-w
invariant-loop-w l = l.of ≡ map (relabelled l.from l.to) (take l.w l.fn.of) ++ drop l.w l.fn.of
