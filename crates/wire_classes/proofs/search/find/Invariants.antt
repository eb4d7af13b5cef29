-- the wire is equal to the one that is reached
use Rattle.share_laws.specs.Same.{Same}
use Rattle.wire_classes.proofs.search.find.Given as goal

abbrev pub invariant-loop-step : goal.invariant-loop-step
invariant-loop-step l = Same l.scene.flat.now l.w l.root
