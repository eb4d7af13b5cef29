-- the labels so far
use Rattle.std.proofs.Common.{◌≡◌, map, take}
use Rattle.wire_classes.specs.Closed.{label_of}
use Rattle.wire_classes.proofs.marked.labels_of.Given as goal

abbrev pub invariant-loop-w : goal.invariant-loop-w
invariant-loop-w l = l.labels.items ≡ map (label_of l.of) (take l.w-index l.wires)
