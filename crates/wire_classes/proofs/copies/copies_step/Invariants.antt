-- the cells so far copy wires of their labels
use Rattle.std.proofs.Common.{ℕ, ◌<◌}
use Rattle.wire_classes.specs.Closed.{CopyHoldsAt}
use Rattle.wire_classes.proofs.copies.copies_step.Given as goal

abbrev pub invariant-loop-place : goal.invariant-loop-place
invariant-loop-place l = (p : ℕ) → p < l.place → CopyHoldsAt l.flat l.of l.known l.values p
