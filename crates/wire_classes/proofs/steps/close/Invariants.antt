-- what is found stays found, and each step leaves less
use Rattle.wire_classes.specs.Closed.{AreFound}
use Rattle.wire_classes.specs.Steps.{left_of}
use Rattle.wire_classes.proofs.steps.close.Given as goal

abbrev pub invariant-steps : goal.invariant-steps
invariant-steps l = AreFound l.flat l.of l.known l.values

abbrev pub decreases-steps : goal.decreases-steps
decreases-steps l = left_of l.of l.known
