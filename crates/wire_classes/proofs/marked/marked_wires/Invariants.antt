-- the marked wires so far
use Rattle.wire_classes.specs.Keys.{AreMarked}
use Rattle.wire_classes.proofs.marked.marked_wires.Given as goal

abbrev pub invariant-loop-w : goal.invariant-loop-w
invariant-loop-w l = AreMarked l.known l.w l.wires.items
