-- what is found stays found
use Rattle.wire_classes.specs.Closed.{AreFound}
use Rattle.wire_classes.proofs.search.compress_all.Given as goal

abbrev pub invariant-loop-w : goal.invariant-loop-w
invariant-loop-w l = AreFound l.scene.flat.now l.of l.known l.scene.values.now
