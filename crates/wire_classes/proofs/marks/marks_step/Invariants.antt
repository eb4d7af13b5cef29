-- the cells so far that give constants drive marked wires
use Rattle.std.proofs.Common.{ℕ, ◌<◌}
use Rattle.wire_classes.specs.Closed.{MarkHoldsAt}
use Rattle.wire_classes.proofs.marks.marks_step.Given as goal

abbrev pub invariant-loop-place : goal.invariant-loop-place
invariant-loop-place l = (p : ℕ) → p < l.place → MarkHoldsAt l.flat l.known p
