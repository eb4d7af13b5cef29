-- the wires so far are marked as those of their labels
use Rattle.std.proofs.Common.{ℕ, ◌<◌}
use Rattle.wire_classes.specs.Closed.{LabelHoldsAt}
use Rattle.wire_classes.proofs.marks.labels_step.Given as goal

abbrev pub invariant-loop-w : goal.invariant-loop-w
invariant-loop-w l = (v : ℕ) → v < l.w → LabelHoldsAt l.of l.known v
