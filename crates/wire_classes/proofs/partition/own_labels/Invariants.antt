-- the labels so far
use Rattle.wire_classes.specs.Partition.{AreOwn}
use Rattle.wire_classes.proofs.partition.own_labels.Given as goal

abbrev pub invariant-loop-w : goal.invariant-loop-w
invariant-loop-w l = AreOwn l.w l.labels.items
