-- what is found stays found
use Rattle.wire_classes.specs.Closed.{AreFound}
use Rattle.wire_classes.proofs.search.visit_all.Given as goal

abbrev pub invariant-loop-turn : goal.invariant-loop-turn
invariant-loop-turn l = AreFound l.scene.flat.now l.of l.known l.scene.values.now
